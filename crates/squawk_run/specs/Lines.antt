-- Lines that end with a number.
use Rattle.std.specs.Prelude.{ℕ, List, ◌++◌, codes, decimal}

-- a text, a number in decimal and a line feed
abbrev pub numbered : List ℕ → ℕ → List ℕ
numbered text number = text ++ decimal number ++ codes "\n"
