use Rattle.lint_pass.specs.lint_base.GrownLaws.{at_err}
use Rattle.lint_pass.proofs.PartLaws.{part_refused_in}
use Rattle.pass_constraint.specs.AddingFieldWithDefault.{on_action}
use Rattle.pass_constraint.proofs.adding_field_with_default.report_actions.Goals as goal

pub returns-in_err-report_action-clause-err : goal.returns-in_err-report_action-clause-err
returns-in_err-report_action-clause-err c =
    at_err _
    (part_refused_in (on_action c.args.set.now c.args.p.now) c.args.actions.now c.loop-a.a-index c.a-item.result c.args.out.now c.loop-a.out c.report_action.new.out
    c.loop-a-test.true c.a-item.is c.loop-a.invariant c.in_err-report_action.ensures.err)
