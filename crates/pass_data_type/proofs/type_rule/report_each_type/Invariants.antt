use Rattle.std.proofs.Common.{◌≡◌, ◌++◌}
use Rattle.lint_pass.specs.lint_node.ColumnTypes.{column_types}
use Rattle.lint_pass.specs.Those.{those}
use Rattle.pass_data_type.proofs.type_rule.report_each_type.Given as goal

-- what was passed was reported
abbrev pub invariant-loop-t : goal.invariant-loop-t
invariant-loop-t g l =
    (l.yielded ++ l.t-iterator ≡ column_types l.s)
    × (l.out ≡ l.fn.out ++ those (g.T.TypeRule.concerns l.rule l.p) (g.T.TypeRule.report_on l.rule l.p) l.yielded)
