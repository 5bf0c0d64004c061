-- What a walk over the statements of a tree knows of the open transaction.
use Rattle.std.specs.Prelude.{◌≡◌, ℕ, Bool, ◌&&◌, ◌||◌, not, List}
use Rattle.std.specs.List.{list_any}
use Rattle.sql_tree.specs.declared.nodes.Stmt.{Stmt}
use Rattle.sql_tree.specs.Statement.{Tree}
use Rattle.lint_transaction.specs.Transaction.{begins, ends, chains, creates, same_path, is_open, is_new}

-- whether a transaction is open, and the paths of the tables that it created
pub record Known : Type 0 where
  pub is_open : Bool
  pub tables : List (List (List ℕ))

-- whether the table of this path is among the known tables
abbrev pub holds : Known → List (List ℕ) → Bool
holds known path = list_any (same_path path) known.tables

-- what is known after a statement
pub record IsAfter (tree : Tree) (s : Stmt) (old new : Known) : Type 0 where
  pub open_after : new.is_open ≡ (begins s || chains s || (old.is_open && not (ends s)))
  pub tables_after : (path : List (List ℕ)) → holds new path ≡ ((creates tree path s && old.is_open) || (holds old path && not (ends s)))

-- what is known is right before statement i
pub record IsTracking (tree : Tree) (assumed : Bool) (i : ℕ) (known : Known) : Type 0 where
  pub open_here : known.is_open ≡ is_open assumed tree i
  pub new_here : (path : List (List ℕ)) → holds known path ≡ is_new assumed tree path i
