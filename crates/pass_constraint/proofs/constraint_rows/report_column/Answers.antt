use Rattle.lint_pass.specs.lint_base.GrownLaws.{at_err}
use Rattle.lint_pass.proofs.PartLaws.{prefix_refused}
use Rattle.lint_pass.specs.Those.{that}
use Rattle.pass_constraint.specs.AddedConstraints.{is_of_column, lent, report}
use Rattle.pass_constraint.proofs.constraint_rows.report_column.Goals as goal

pub returns-in_err-report_of_column-clause-err : goal.returns-in_err-report_of_column-clause-err
returns-in_err-report_of_column-clause-err c =
    at_err _
    (prefix_refused (that (is_of_column (lent c.args.row.now) c.args.is_new) (report (lent c.args.row.now) c.args.p.now)) c.args.constraints.now c.loop-c.c-index c.args.out.now c.loop-c.out c.report_of_column.new.out
    c.loop-c.invariant c.in_err-report_of_column.ensures.err)
