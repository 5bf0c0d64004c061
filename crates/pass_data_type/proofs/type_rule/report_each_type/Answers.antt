use Rattle.lint_pass.specs.lint_base.GrownLaws.{at_err}
use Rattle.lint_pass.specs.lint_node.ColumnTypes.{column_types}
use Rattle.lint_pass.specs.Those.{that}
use Rattle.pass_data_type.proofs.TypeWalk.{walk_refused}
use Rattle.pass_data_type.proofs.type_rule.report_each_type.Goals as goal

pub returns-in_err-report_type-clause-err : goal.returns-in_err-report_type-clause-err
returns-in_err-report_type-clause-err g c =
    at_err _
    (walk_refused (that (g.T.TypeRule.concerns c.args.rule.now c.args.p.now) (g.T.TypeRule.report_on c.args.rule.now c.args.p.now)) (column_types c.args.s.now) c.loop-t.yielded
    c.loop-t.t-iterator c.args.out.now c.loop-t.out c.report_type.new.out c.loop-t.invariant.0 c.loop-t.invariant.1 c.in_err-report_type.ensures.err)
