-- How texts are in the printed form: on one line, and told apart from the quotes round them.
use Rattle.std.specs.Prelude.{ℕ, ◌==◌, if◌then◌else◌, List, [], ◌∷◌}
use Rattle.std.specs.List.{flat_map}
use Rattle.lint_base.specs.PlainBytes.{is_plain}

-- what comes after a backslash: n for a line feed, r for a carriage return, else the byte itself
abbrev pub letter_of : ℕ → ℕ
letter_of b = if b == 10 then 110 else (if b == 13 then 114 else b)

abbrev pub escaped_byte : ℕ → List ℕ
escaped_byte b = if is_plain b then b ∷ [] else 92 ∷ letter_of b ∷ []

abbrev pub escaped : List ℕ → List ℕ
escaped text = flat_map escaped_byte text
