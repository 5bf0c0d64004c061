-- A message or a name as it is written on a line.
use Rattle.std.specs.Prelude.{◌≡◌, ◌==◌, ℕ, Bool, false, ◌||◌, List, [], ◌∷◌, get_or, nat_lt}
use Rattle.check_print.specs.source_file.Escaped.{escaped, escaped_name}
use Rattle.check_print.specs.source_file.Shown.{is_c1, is_embedding, is_isolate}

-- Two messages that are written alike on a line are the same, and so are two names of files.
abbrev pub UniqueEscapes : Type 0
UniqueEscapes = (x y : List ℕ) → (escaped x ≡ escaped y → x ≡ y) × (escaped_name x ≡ escaped_name y → x ≡ y)

-- these bytes begin a control character, of ASCII or of C1, or one that turns the direction of a text
abbrev pub is_control : ℕ → ℕ → ℕ → Bool
is_control a b c = nat_lt a 32 || a == 127 || is_c1 a b || is_embedding a b c || is_isolate a b c

-- there is such a character in a text
abbrev pub has_control : List ℕ → Bool
has_control [] = false
has_control (a ∷ rest) = is_control a (get_or rest 0 0) (get_or rest 1 0) || has_control rest

-- Of a message and of a name no control character is written as it is, and none that turns the direction of a text: each is on one line, and
-- steers no terminal.
abbrev pub HaveNoControl : Type 0
HaveNoControl = (text : List ℕ) → (has_control (escaped text) ≡ false) × (has_control (escaped_name text) ≡ false)
