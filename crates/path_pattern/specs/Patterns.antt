-- When a path matches a pattern.
use Rattle.std.specs.Prelude.{◌≡◌, ◌⊎◌, ◌==◌, ℕ, Bool, true, false, not, if◌then◌else◌, List, [], ◌∷◌, ◌++◌, length}
use Rattle.std.specs.List.{list_all}
use Rattle.path_pattern.specs.declared.part.Part.{Part}
use Rattle.path_pattern.specs.declared.part.Part.TheVariants.{Byte, One, Name, Path}

-- ---- the parts of a pattern

abbrev pub begins_with_star : List ℕ → Bool
begins_with_star [] = false
begins_with_star (x ∷ xs) = x == 42

-- the part that a byte of a pattern is, by whether a star follows it: of two stars in a row the first takes any bytes
abbrev pub part_of : ℕ → Bool → Part
part_of byte is_before_star =
    if byte == 42 then (if is_before_star then Path else Name)
    else if byte == 63 then One
    else Byte byte

-- the parts of a pattern, one for each byte
abbrev pub parts_of : List ℕ → List Part
parts_of [] = []
parts_of (byte ∷ pattern) = part_of byte (begins_with_star pattern) ∷ parts_of pattern

-- ---- what they match

-- the bytes that a part takes; 47 is a slash
abbrev pub takes : Part → ℕ → Bool
takes (Byte own) byte = byte == own
takes One byte = not (byte == 47)
takes Name byte = not (byte == 47)
takes Path byte = true

-- it takes any number of them, and not one
abbrev pub takes_many : Part → Bool
takes_many (Byte own) = false
takes_many One = false
takes_many Name = true
takes_many Path = true

-- bytes that a part stands for
pub record Fits (part : Part) (bytes : List ℕ) : Type 0 where
  pub taken : list_all (takes part) bytes ≡ true
  pub number : (takes_many part ≡ true) ⊎ (length bytes ≡ 1)

-- the path can be cut into as many pieces as there are parts, each of which its part stands for
abbrev pub Matches : List Part → List ℕ → Type 0
Matches [] path = path ≡ []
Matches (part ∷ parts) path = (piece : List ℕ) × (rest : List ℕ) × (path ≡ piece ++ rest) × Fits part piece × Matches parts rest
