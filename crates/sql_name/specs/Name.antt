-- What the names of SQL stand for. A name is the text of a word or of a quoted identifier; each definition answers for every list of bytes.
use Rattle.std.specs.Prelude.{ℕ, zero, suc, List, [], ◌∷◌, ◌==◌, ◌||◌, nat_lt, nat_le, if◌then◌else◌, Bool, length, take, drop, map, slice_index}
use Rattle.std.specs.Char.{to_ascii_lowercase}

-- the byte `"`
abbrev pub quote : ℕ
quote = 34

unfoldable mutual
  -- what comes after an opening `"`: `""` is one `"`, and a `"` that is not doubled ends it
  pub unquoted : List ℕ → List ℕ
  unquoted [] = []
  unquoted (c ∷ bs) = if c == quote then after_quote bs else c ∷ unquoted bs

  pub after_quote : List ℕ → List ℕ
  after_quote [] = []
  after_quote (c ∷ bs) = if c == quote then quote ∷ unquoted bs else []

-- the full text: a quoted identifier without its quotes, a word in ASCII lower case
unfoldable pub full_name : List ℕ → List ℕ
full_name t = if slice_index t 0 == quote then unquoted (drop 1 t) else map to_ascii_lowercase t

-- whether the first n bytes of s end on a character boundary: s ends there, or no continuation byte, 128 to 191, is next
abbrev pub ends_on_boundary : List ℕ → ℕ → Bool
ends_on_boundary s n = nat_le (length s) n || nat_lt (slice_index s n) 128 || nat_le 192 (slice_index s n)

-- the longest prefix of s that ends on a character boundary and has at most n bytes
unfoldable pub cut_to : ℕ → List ℕ → List ℕ
cut_to zero s = []
cut_to (suc n) s = if ends_on_boundary s (suc n) then take (suc n) s else cut_to n s

-- the text that names are told apart by: the longest such prefix of the full text of at most 63 bytes (PostgreSQL manual 4.1.1)
unfoldable pub cut_name : List ℕ → List ℕ
cut_name t = cut_to 63 (full_name t)
