use Rattle.lint_pass.specs.lint_base.GrownLaws.{at_err}
use Rattle.lint_pass.proofs.PartLaws.{prefix_refused}
use Rattle.pass_constraint.specs.AddingFieldWithDefault.{on_constraint}
use Rattle.pass_constraint.proofs.adding_field_with_default.report_constraints.Goals as goal

pub returns-in_err-report_constraint-clause-err : goal.returns-in_err-report_constraint-clause-err
returns-in_err-report_constraint-clause-err c =
    at_err _
    (prefix_refused (on_constraint c.args.set.now c.args.p.now) c.args.constraints.now c.loop-c.c-index c.args.out.now c.loop-c.out c.report_constraint.new.out
    c.loop-c.invariant c.in_err-report_constraint.ensures.err)
