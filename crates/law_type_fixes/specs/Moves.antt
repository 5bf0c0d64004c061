-- What is asked of a statement, under other numbers of its tokens.
use Rattle.std.specs.Prelude.{◌≡◌, ℕ, map}
use Rattle.std.specs.Option.{option_map}
use Rattle.pass_data_type.specs.sql_tree.declared.nodes.Stmt.{Stmt}
use Rattle.law_edit_types.specs.law_renumber.Moved.{span_moved, stmt_moved, type_moved}
use Rattle.pass_data_type.specs.lint_node.ColumnTypes.{column_types}
use Rattle.pass_data_type.specs.lint_transaction.Transaction.{begins, chains, created, ends}

-- The statement s has the same under the numbers that f gives.
pub record Moves (f : ℕ → ℕ) (s : Stmt) : Type 0 where
  pub begins : begins (stmt_moved f s) ≡ begins s
  pub ends : ends (stmt_moved f s) ≡ ends s
  pub chains : chains (stmt_moved f s) ≡ chains s
  pub created : created (stmt_moved f s) ≡ option_map (span_moved f) (created s)
  pub types : column_types (stmt_moved f s) ≡ map (type_moved f) (column_types s)

-- Each statement has, whatever its new numbers are.
abbrev pub StatementsMove : Type 0
StatementsMove = (f : ℕ → ℕ) (s : Stmt) → Moves f s
