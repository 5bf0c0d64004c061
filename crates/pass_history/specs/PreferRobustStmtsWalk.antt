-- What a walk over the statements knows of robust statements.
use Rattle.std.specs.Prelude.{◌≡◌, ℕ, length}
use Rattle.sql_tree.specs.Statement.{Tree}
use Rattle.lint_pass.specs.lint_base.declared.settings.LinterSettings.{LinterSettings}
use Rattle.lint_pass.specs.BlockPlace.{ended_before}
use Rattle.lint_pass.specs.lint_transaction.Transaction.{is_open}
use Rattle.pass_history.specs.Dropped.{IsDropping}
use Rattle.pass_history.specs.History.{altered_below}
use Rattle.pass_history.specs.declared.prefer_robust_stmts.PreferRobustStmtsMemory.{PreferRobustStmtsMemory}

pub record IsRobustAt (tree : Tree) (settings : LinterSettings) (i : ℕ) (memory : PreferRobustStmtsMemory) : Type 0 where
  pub open_here : memory.open ≡ is_open settings.assume_in_transaction tree i
  pub dropping : IsDropping tree (altered_below tree i) memory.dropped
  pub next_block : memory.next ≡ length (ended_before tree i)
