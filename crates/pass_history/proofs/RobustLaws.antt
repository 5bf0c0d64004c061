-- What is known of robust statements goes on from statement to statement.
use Rattle.std.proofs.Common.{◌≡◌, ap, subst, ℕ, ◌+◌, add-one, ◌&&◌, ◌||◌, not, ◌++◌, length}
use Rattle.sql_tree.specs.declared.nodes.Stmt.{Stmt}
use Rattle.sql_tree.specs.Statement.{Tree}
use Rattle.lint_pass.specs.lint_base.declared.settings.LinterSettings.{LinterSettings}
use Rattle.lint_pass.specs.lint_node.Altered.{altered_by}
use Rattle.lint_pass.specs.BlockPlace.{ended_before}
use Rattle.lint_pass.specs.lint_transaction.Transaction.{begins, ends, chains, stmt_at}
use Rattle.lint_pass.proofs.of_lint_transaction.TrackingLaws.{open_next_stmt}
use Rattle.pass_history.specs.Dropped.{IsDropping}
use Rattle.pass_history.specs.History.{altered_below}
use Rattle.pass_history.specs.PreferRobustStmtsWalk.{IsRobustAt}
use Rattle.pass_history.specs.declared.prefer_robust_stmts.PreferRobustStmtsMemory.{PreferRobustStmtsMemory}

-- one more statement
pub below_next : (tree : Tree) (i : ℕ) (s : Stmt) → s ≡ stmt_at tree i → altered_below tree i ++ altered_by s ≡ altered_below tree (i + 1)
below_next tree i s e = rw add-one (ap (λ x. altered_below tree i ++ altered_by x) e)

pub robust_next : (tree : Tree) (settings : LinterSettings) (i : ℕ) (s : Stmt) (old new : PreferRobustStmtsMemory) → s ≡ stmt_at tree i → IsRobustAt tree settings i old
    → new.open ≡ (begins s || chains s || (old.open && not (ends s))) → IsDropping tree (altered_below tree i ++ altered_by s) new.dropped → new.next ≡ length (ended_before tree (i + 1))
    → IsRobustAt tree settings (i + 1) new
robust_next tree settings i s old new e h opens drops next = record {
  open_here = open_next_stmt tree settings.assume_in_transaction i s old.open new.open e h.open_here opens;
  dropping = subst (λ es. IsDropping tree es new.dropped) (below_next tree i s e) drops;
  next_block = next;
}
