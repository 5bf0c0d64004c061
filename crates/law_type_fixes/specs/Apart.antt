-- The numbers that a column type of a statement holds are those of its own tokens.
use Rattle.std.specs.Prelude.{◌≡◌, ◌≤◌, ℕ, List, ◌∷◌, ◌++◌, map, length}
use Rattle.pass_data_type.specs.sql_tree.declared.nodes.ColType.{ColType}
use Rattle.pass_data_type.specs.sql_tree.declared.nodes.Stmt.{Stmt}
use Rattle.pass_data_type.specs.sql_tree.Statement.{Tree, IsTree}
use Rattle.law_edit_types.specs.law_renumber.Moved.{type_moved}
use Rattle.law_edit_types.specs.law_edit_inserts.Apart.{outside}
use Rattle.pass_data_type.specs.lint_node.ColumnTypes.{column_types}

-- The types before ty, ty, and those after it: each group stays where all numbers but those of its own tokens change. The first
-- token of ty is the lowest of its numbers, and its inner type runs forward.
pub record TypeApart (tree : Tree) (earlier : List ColType) (ty : ColType) (later : List ColType) : Type 0 where
  pub until : ℕ
  pub earlier_is : map (type_moved (outside 0 ty.whole.first)) earlier ≡ earlier
  pub here_is : type_moved (outside ty.whole.first until) ty ≡ ty
  pub later_is : map (type_moved (outside until (length tree.toks))) later ≡ later
  pub within : until ≤ length tree.toks
  pub inner : ty.inner.first ≤ ty.inner.last

-- So it is of each column type of a statement.
abbrev pub TypesApart : Type 0
TypesApart =
    (tree : Tree) (before : List Stmt) (st : Stmt) (after : List Stmt) (earlier : List ColType) (ty : ColType) (later : List ColType) →
    IsTree tree → tree.stmts ≡ before ++ st ∷ after → column_types st ≡ earlier ++ ty ∷ later → TypeApart tree earlier ty later
