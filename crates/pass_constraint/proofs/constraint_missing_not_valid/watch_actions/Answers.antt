use Rattle.lint_pass.specs.lint_base.GrownLaws.{at_err}
use Rattle.pass_constraint.specs.ConstraintWalk.{has_name}
use Rattle.pass_constraint.proofs.ConstraintLaws.{names_next, told_next, validations_refused, validations_grown}
use Rattle.pass_constraint.proofs.constraint_missing_not_valid.watch_actions.Goals as goal

pub loop-a-preserved : goal.loop-a-preserved
loop-a-preserved c =
    let p = c.args.p.now in
    let was = has_name p c.args.names.now in
    record {
      key = c.in_ok-put_name.ensures.key;
      names = names_next p was (has_name p c.loop-a.names) c.args.actions.now c.loop-a.a-index c.a-item.result c.loop-a-test.true c.a-item.is c.loop-a.invariant.names (has_name p c.put_name.new.names) c.in_ok-put_name.ensures.ok;
      told = told_next p was (has_name p c.loop-a.names) c.args.actions.now c.loop-a.a-index c.a-item.result c.loop-a-test.true c.a-item.is c.loop-a.invariant.names c.args.out.now c.loop-a.out c.report_validation.new.out c.loop-a.invariant.told c.in_ok-report_validation.ensures.ok;
    }

pub returns-in_err-report_validation-clause-err : goal.returns-in_err-report_validation-clause-err
returns-in_err-report_validation-clause-err c =
    let p = c.args.p.now in
    at_err c.from_residual.result
    (validations_refused p (has_name p c.args.names.now) c.args.actions.now c.loop-a.a-index c.args.out.now c.loop-a.out c.report_validation.new.out c.loop-a-test.true c.loop-a.invariant.told c.in_err-report_validation.ensures.err)

pub returns-in_err-put_name-clause-err : goal.returns-in_err-put_name-clause-err
returns-in_err-put_name-clause-err c =
    let p = c.args.p.now in
    at_err c.from_residual-in_err-put_name.result
    (validations_grown p (has_name p c.args.names.now) (has_name p c.loop-a.names) c.args.actions.now c.loop-a.a-index c.a-item.result c.loop-a-test.true c.a-item.is c.loop-a.invariant.names c.args.out.now c.loop-a.out c.report_validation.new.out c.loop-a.invariant.told c.in_ok-report_validation.ensures.ok)
