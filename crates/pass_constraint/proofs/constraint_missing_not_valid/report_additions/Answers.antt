use Rattle.lint_pass.specs.lint_base.GrownLaws.{at_err}
use Rattle.pass_constraint.specs.ConstraintMissingNotValid.{addition}
use Rattle.lint_pass.proofs.PartLaws.{part_next, part_refused}
use Rattle.pass_constraint.proofs.constraint_missing_not_valid.report_additions.Goals as goal

pub loop-a-preserved : goal.loop-a-preserved
loop-a-preserved c =
    part_next (addition c.args.p.now) c.args.actions.now c.loop-a.a-index c.a-item.result c.args.out.now c.loop-a.out c.report_addition.new.out
    c.loop-a-test.true c.a-item.is c.loop-a.invariant c.in_ok-report_addition.ensures.ok

pub returns-in_err-report_addition-clause-err : goal.returns-in_err-report_addition-clause-err
returns-in_err-report_addition-clause-err c =
    at_err c.from_residual.result
    (part_refused (addition c.args.p.now) c.args.actions.now c.loop-a.a-index c.a-item.result c.args.out.now c.loop-a.out c.report_addition.new.out
    c.loop-a.invariant c.in_err-report_addition.ensures.err)
