-- What is written of accepted files.
use Rattle.std.specs.Prelude.{ℕ, Bool, List, ◌++◌, length, codes, decimal, if◌then◌else◌}
use Rattle.migration_gate.specs.declared.verdict.GateWork.{GateWork}
use Rattle.migration_gate.specs.PrintedVerdict.{printed_accepted as printed_works}

-- how many files there are
abbrev pub counted : ℕ → List ℕ
counted count = codes "accepted: " ++ decimal count ++ codes "\n"

-- the same, and where they are asked for before it each file with its works
abbrev pub printed_accepted : Bool → List (List ℕ) → List GateWork → List ℕ
printed_accepted lists names works = if lists then printed_works names works else counted (length names)
