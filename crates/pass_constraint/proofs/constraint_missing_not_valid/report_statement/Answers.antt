use Rattle.std.proofs.Common.{◌∙◌, sym, rules}
use Rattle.pass_constraint.proofs.ConstraintLaws.{none_added}
use Rattle.pass_constraint.proofs.constraint_missing_not_valid.report_statement.Goals as goal

pub returns-then-not-has_addition-clause-ok : goal.returns-then-not-has_addition-clause-ok
returns-then-not-has_addition-clause-ok c settings i h =
    none_added settings c.args.p.now i c.args.s.now c.table_actions-actions.result.now c.table_actions-actions.ensures (sym c.has_addition.ensures ∙ c.if-not-has_addition.true) c.args.out.now

pub returns-then-not-has_addition-clause-err : goal.returns-then-not-has_addition-clause-err
returns-then-not-has_addition-clause-err c = search rules

pub returns-then-is_on_new-clause-ok : goal.returns-then-is_on_new-clause-ok
returns-then-is_on_new-clause-ok c = search rules

pub returns-then-is_on_new-clause-err : goal.returns-then-is_on_new-clause-err
returns-then-is_on_new-clause-err c = search rules

pub returns-clause-ok : goal.returns-clause-ok
returns-clause-ok c = search rules

pub returns-clause-err : goal.returns-clause-err
returns-clause-err c = search rules

pub returns-in_err-is_on_new-clause-err : goal.returns-in_err-is_on_new-clause-err
returns-in_err-is_on_new-clause-err c = search rules
