-- The reports of those nodes of a list that pass a test.
use Rattle.std.specs.Prelude.{Bool, List, [], ◌∷◌, if◌then◌else◌}
use Rattle.std.specs.List.{flat_map}
use Rattle.lint_base.specs.declared.violation.Violation.{Violation}

-- the report of a node, where it passes the test
abbrev pub that : {N : Type 0} → (N → Bool) → (N → Violation) → N → List Violation
that test report n = if test n then report n ∷ [] else []

-- the reports of all of them
abbrev pub those : {N : Type 0} → (N → Bool) → (N → Violation) → List N → List Violation
those test report nodes = flat_map (that test report) nodes
