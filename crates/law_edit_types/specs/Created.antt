-- The type of a column of a CREATE TABLE becomes one word: the tree is the old one, that type aside.
use Rattle.std.specs.Prelude.{◌≡◌, ◌<◌, ℕ, ◌^◌, Bool, true, List, ◌∷◌, ◌++◌, map, length, Some}
use Rattle.law_edit_inserts.specs.sql_token.declared.token.Span.{Span}
use Rattle.law_edit_inserts.specs.sql_token.Token.{Text}
use Rattle.law_edit_inserts.specs.sql_tree.declared.kinds.StmtKind.TheVariants as stmt
use Rattle.law_edit_inserts.specs.sql_tree.declared.nodes.Body.{Body}
use Rattle.law_edit_inserts.specs.sql_tree.declared.nodes.Body.TheVariants as body
use Rattle.law_edit_inserts.specs.sql_tree.declared.nodes.Column.{Column}
use Rattle.law_edit_inserts.specs.sql_tree.declared.nodes.ColType.{ColType}
use Rattle.law_edit_inserts.specs.sql_tree.declared.nodes.Elem.{Elem}
use Rattle.law_edit_inserts.specs.sql_tree.declared.nodes.Elem.TheVariants as elem
use Rattle.law_edit_inserts.specs.sql_tree.declared.nodes.Stmt.{Stmt}
use Rattle.law_edit_inserts.specs.sql_tree.Statement.{Tree, IsTree}
use Rattle.law_edit_inserts.specs.law_renumber.Moved.{span_moved, column_moved, elem_moved, stmt_moved}
use Rattle.law_edit_types.specs.Runs.{fused, worded_text, IsTypeName, IsApart, Worded}
use Rattle.law_edit_types.specs.Types.{is_replaced, retyped_column}

-- What a CREATE TABLE is known by, but for its elements.
pub record TableHead : Type 0 where
  pub temp : Bool
  pub guarded : Bool
  pub on_commit_drop : Bool
  pub word : ℕ
  pub path : Span

-- the body of a CREATE TABLE with these elements
abbrev pub table_of : TableHead → List Elem → Body
table_of head elems = body.Table head.temp head.guarded head.on_commit_drop head.word head.path elems

abbrev pub head_moved : (ℕ → ℕ) → TableHead → TableHead
head_moved f head = record head { word = f head.word; path = span_moved f head.path }

-- the statement under its new numbers, with that type for the column c, and nothing else changed
abbrev pub retyped_table : (ℕ → ℕ) → ℕ → Stmt → TableHead → List Elem → Column → List Elem → Stmt
retyped_table f n st head earlier c later =
    record (stmt_moved f st) { body = table_of (head_moved f head) (map (elem_moved f) earlier ++ elem.Column (retyped_column n (column_moved f c)) ∷ map (elem_moved f) later) }

-- The text with the word in place of the inner type of a column that a CREATE TABLE lists has such a tree.
abbrev pub CreatedTypeReads : Type 0
CreatedTypeReads =
    (tree : Tree) (before : List Stmt) (st : Stmt) (after : List Stmt) (head : TableHead) (earlier : List Elem) (c : Column) (later : List Elem) (ty : ColType) (w : Text) →
    IsTree tree → tree.stmts ≡ before ++ st ∷ after → st.kind ≡ stmt.CreateTable → st.body ≡ table_of head (earlier ++ elem.Column c ∷ later) →
    c.ty ≡ Some ty → is_replaced ty ≡ true →
    IsTypeName w → IsApart tree ty.inner.first ty.inner.last → length (worded_text tree ty.inner.first ty.inner.last w) < 2 ^ 32 →
    Worded tree ty.inner.first ty.inner.last w before (λ now. now ≡ retyped_table (fused ty.inner.first ty.inner.last) ty.inner.first st head earlier c later) after
