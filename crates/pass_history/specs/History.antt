-- The history of a text: the actions of its ALTER TABLE statements, each with the path of its table (PostgreSQL manual, ALTER TABLE).
use Rattle.std.specs.Prelude.{ℕ, List}
use Rattle.sql_tree.specs.Statement.{Tree}
use Rattle.lint_pass.specs.lint_node.Altered.{Altered, altered_by}
use Rattle.lint_pass.specs.lint_transaction.Earlier.{concat_below}
use Rattle.lint_pass.specs.lint_transaction.Transaction.{stmt_at}

-- the events of statement i
abbrev pub altered_at : Tree → ℕ → List Altered
altered_at tree i = altered_by (stmt_at tree i)

-- the events of the statements before statement i
abbrev pub altered_below : Tree → ℕ → List Altered
altered_below tree i = concat_below (altered_at tree) i
