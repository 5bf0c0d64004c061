use Rattle.lint_pass.specs.lint_base.GrownLaws.{at_err}
use Rattle.lint_pass.proofs.PartLaws.{prefix_refused}
use Rattle.lint_pass.specs.Those.{that}
use Rattle.pass_constraint.specs.AddingRequiredField.{is_required, report}
use Rattle.pass_constraint.proofs.adding_required_field.report_actions.Goals as goal

pub returns-in_err-report_action-clause-err : goal.returns-in_err-report_action-clause-err
returns-in_err-report_action-clause-err c =
    at_err _
    (prefix_refused (that is_required (report c.args.p.now)) c.args.actions.now c.loop-a.a-index c.args.out.now c.loop-a.out c.report_action.new.out
    c.loop-a.invariant c.in_err-report_action.ensures.err)
