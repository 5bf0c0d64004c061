-- The numbers that a statement of a tree holds are those of its own tokens.
use Rattle.std.specs.Prelude.{◌≡◌, ◌<◌, ℕ, suc, ◌+◌, ◌&&◌, nat_le, nat_lt, if◌then◌else◌, List, ◌∷◌, ◌++◌, map, length}
use Rattle.law_edit_cuts.specs.sql_tree.declared.nodes.Stmt.{Stmt}
use Rattle.law_edit_cuts.specs.sql_tree.Statement.{Tree, IsTree}
use Rattle.law_edit_cuts.specs.law_renumber.Moved.{stmt_moved}

-- The numbers from lo to before hi stay, and all others change.
abbrev pub outside : ℕ → ℕ → ℕ → ℕ
outside lo hi x = if nat_le lo x && nat_lt x hi then x else suc x

-- Which numbers are in these statements: those before s, s, and those after it stay where all other numbers change.
pub record Apart (tree : Tree) (before : List Stmt) (s : Stmt) (after : List Stmt) : Type 0 where
  pub before_is : map (stmt_moved (outside 0 s.first)) before ≡ before
  pub here_is : stmt_moved (outside s.first (s.last + 1)) s ≡ s
  pub within : s.last < length tree.toks
  pub after_is : map (stmt_moved (outside (s.last + 1) (length tree.toks))) after ≡ after

-- So it is of each statement of a tree.
abbrev pub StatementsApart : Type 0
StatementsApart =
    (tree : Tree) (before : List Stmt) (s : Stmt) (after : List Stmt) → IsTree tree → tree.stmts ≡ before ++ s ∷ after → Apart tree before s after
