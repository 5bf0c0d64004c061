-- What is kept of the partitioned tables, one statement more.
use Rattle.std.proofs.Common.{◌≡◌, ◌∙◌, ap, ℕ, ◌+◌, add-one, Bool, ◌||◌, List}
use Rattle.lint_ignore.specs.sql_tree.declared.nodes.Stmt.{Stmt}
use Rattle.lint_ignore.specs.sql_tree.Statement.{Tree}
use Rattle.lint_transaction.specs.Earlier.{any_below}
use Rattle.lint_transaction.specs.SpanSet.{Spans, has_span}
use Rattle.lint_transaction.specs.Transaction.{is_path, stmt_at}
use Rattle.lint_transaction.proofs.EarlierLaws.{or_swap}
use Rattle.fix_class.specs.Known.{partitioned_table}
use Rattle.fix_class.specs.Partitioned.{ArePartitioned}

-- one number more
any_next : (p : ℕ → Bool) (i : ℕ) (old new : Bool) → old ≡ any_below p i → new ≡ (p i || old) → new ≡ any_below p (i + 1)
any_next p i old new o n = rw add-one (n ∙ (ap (λ b. p i || b) o ∙ or_swap (p i) (any_below p i)))

pub partitioned_next : (tree : Tree) (i : ℕ) (s : Stmt) (old new : Spans) → s ≡ stmt_at tree i
    → ((path : List (List ℕ)) → has_span tree new path ≡ (is_path tree (partitioned_table tree s) path || has_span tree old path))
    → ArePartitioned tree i old → ArePartitioned tree (i + 1) new
partitioned_next tree i s old new e more are path =
    any_next (λ j. is_path tree (partitioned_table tree (stmt_at tree j)) path) i (has_span tree old path) (has_span tree new path) (are path)
    (more path ∙ ap (λ (x : Stmt). is_path tree (partitioned_table tree x) path || has_span tree old path) e)
