-- The start of a text lies in it.
use Rattle.std.specs.Prelude.{[], ◌∷◌}
use Rattle.std.proofs.Common.{arith}
use Rattle.squawk_cli.specs.lint_base.declared.rule.Rule.TheVariants as rule
use Rattle.squawk_cli.specs.lint_base.RuleSets.{Rules, has}
use Rattle.squawk_cli.specs.lint_pass.Ranges.{AllLieIn, LiesIn}
use Rattle.squawk_cli.specs.lint_pass.RuleLaws.{one_all, where_all}
use Rattle.test_linter.specs.Starts.{start_report, start_reports}
use Rattle.squawk_cli.specs.sql_tree.Statement.{Tree}

pub start_lies : (tree : Tree) (rules : Rules) → AllLieIn tree (start_reports rules)
start_lies tree rules =
    where_all (LiesIn tree) (has rules rule.BanDropTable) (start_report ∷ []) (λ _. one_all (LiesIn tree) start_report (record { ordered = omega arith; within = omega arith }))
