-- What is reported of partitions that are detached: each DETACH PARTITION with neither CONCURRENTLY nor FINALIZE (PostgreSQL
-- manual, ALTER TABLE, "DETACH PARTITION").
use Rattle.std.specs.Prelude.{ℕ, List, Option, Some, None, codes}
use Rattle.lint_pass.specs.sql_token.declared.token.Span.{Span}
use Rattle.lint_pass.specs.sql_tree.declared.nodes.Action.{Action}
use Rattle.lint_pass.specs.sql_tree.declared.nodes.Stmt.{Stmt}
use Rattle.lint_pass.specs.sql_tree.Range.{span_range_of}
use Rattle.lint_pass.specs.sql_tree.Statement.{Tree}
use Rattle.lint_pass.specs.lint_base.declared.rule.Rule.TheVariants as rule
use Rattle.lint_pass.specs.lint_base.declared.violation.Violation.{Violation}
use Rattle.lint_pass.specs.lint_node.Parts.{table_actions}
use Rattle.lint_pass.specs.lint_node.Plain.{is_plain_detach}
use Rattle.lint_pass.specs.Those.{those}
use Rattle.pass_concurrent.specs.Concurrently.{plain_report}

-- the last token of the partition's path
abbrev pub end_of : Option Span → ℕ
end_of (Some path) = path.last
end_of None = 0

unfoldable pub report : Tree → Action → Violation
report tree a =
    plain_report rule.RequireConcurrentPartitionDetach
    (codes "detaching a partition requires an `access exclusive` lock, which prevents reads and writes to the table")
    (codes "detach the partition `concurrently`") tree (span_range_of tree.toks a.first a.last) (end_of a.path)

abbrev pub reports_of_require_concurrent_partition_detach : Tree → Stmt → List Violation
reports_of_require_concurrent_partition_detach tree s = those is_plain_detach (report tree) (table_actions s)
