use Rattle.std.proofs.Common.{◌≡◌, ◌++◌, take}
use Rattle.std.specs.List.{flat_map}
use Rattle.pass_constraint.specs.AddingFieldWithDefault.{on_constraint}
use Rattle.pass_constraint.proofs.adding_field_with_default.report_constraints.Given as goal

-- what came so far was reported
abbrev pub invariant-loop-c : goal.invariant-loop-c
invariant-loop-c l = l.out ≡ l.fn.out ++ flat_map (on_constraint l.set l.p) (take l.c-index l.constraints)
