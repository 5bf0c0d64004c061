use Rattle.std.proofs.Common.{subst, List}
use Rattle.sql_tree.specs.declared.nodes.Constraint.{Constraint}
use Rattle.lint_pass.specs.lint_base.Grown.{GrownBy}
use Rattle.lint_pass.specs.lint_base.GrownLaws.{at_err, grown_by_second}
use Rattle.lint_pass.specs.lint_node.Parts.{new_constraints}
use Rattle.pass_constraint.specs.AddedConstraints.{added, lent, on_column, on_table}
use Rattle.pass_constraint.proofs.constraint_rows.report_action.Goals as goal

pub returns-in_err-report_column-clause-err : goal.returns-in_err-report_column-clause-err
returns-in_err-report_column-clause-err c =
    let row = lent c.args.row.now in
    let p = c.args.p.now in
    let mid = c.report_added.new.out in
    let last = c.report_column.new.out in
    at_err _
    (grown_by_second c.args.out.now mid last (on_table row c.args.is_new p (added c.args.a.now)) (on_column row c.args.is_new p (new_constraints c.args.a.now)) c.in_ok-report_added.ensures.ok
    (subst (λ (cs : List Constraint). GrownBy mid last (on_column row c.args.is_new p cs)) c.new_constraints.ensures c.in_err-report_column.ensures.err))
