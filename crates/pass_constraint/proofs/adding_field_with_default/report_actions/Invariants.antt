use Rattle.std.proofs.Common.{◌≡◌, ◌++◌, take}
use Rattle.std.specs.List.{flat_map}
use Rattle.pass_constraint.specs.AddingFieldWithDefault.{on_action}
use Rattle.pass_constraint.proofs.adding_field_with_default.report_actions.Given as goal

-- what came so far was reported
abbrev pub invariant-loop-a : goal.invariant-loop-a
invariant-loop-a l = l.out ≡ l.fn.out ++ flat_map (on_action l.set l.p) (take l.a-index l.actions)
