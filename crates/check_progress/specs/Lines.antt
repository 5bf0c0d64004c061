-- What is written of how far a run is.
use Rattle.std.specs.Prelude.{ℕ, ◌%◌, ◌==◌, ◌&&◌, Bool, List, ◌++◌, codes, decimal, nat_lt}

-- of more than a hundred files, at each tenth
abbrev pub is_due : ℕ → ℕ → Bool
is_due done all = nat_lt 100 all && done % 10 == 0

-- from the start of the line: `120 of 2098 files`
abbrev pub progress_line : ℕ → ℕ → List ℕ
progress_line done all = codes "\r" ++ decimal done ++ codes " of " ++ decimal all ++ codes " files"
