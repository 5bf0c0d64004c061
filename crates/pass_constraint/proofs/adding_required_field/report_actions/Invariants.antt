use Rattle.std.proofs.Common.{◌≡◌, ◌++◌, take}
use Rattle.lint_pass.specs.Those.{those}
use Rattle.pass_constraint.specs.AddingRequiredField.{is_required, report}
use Rattle.pass_constraint.proofs.adding_required_field.report_actions.Given as goal

-- what came so far was reported
abbrev pub invariant-loop-a : goal.invariant-loop-a
invariant-loop-a l = l.out ≡ l.fn.out ++ those is_required (report l.p) (take l.a-index l.actions)
