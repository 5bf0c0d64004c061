use Rattle.std.proofs.Common.{◌≡◌, ◌++◌, take}
use Rattle.std.specs.List.{flat_map}
use Rattle.pass_object.specs.Changes.{at_constraint, by}
use Rattle.pass_object.proofs.changes.Changes.report_constraints.Given as goal

-- what came so far was reported
abbrev pub invariant-loop-c : goal.invariant-loop-c
invariant-loop-c l = l.out ≡ l.fn.out ++ flat_map (at_constraint (by l.self) l.p) (take l.c-index l.constraints)
