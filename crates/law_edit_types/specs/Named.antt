-- The last name of a column's type becomes another word: the tree stays.
use Rattle.std.specs.Prelude.{◌≡◌, ◌<◌, ◌^◌, false, List, ◌∷◌, ◌++◌, length, Option, Some}
use Rattle.law_edit_inserts.specs.sql_token.declared.terminal.Symbol.TheVariants as s
use Rattle.law_edit_inserts.specs.sql_token.declared.token.Span.{Span}
use Rattle.law_edit_inserts.specs.sql_token.declared.token.TokKind.TheVariants.{Word}
use Rattle.law_edit_inserts.specs.sql_token.Terminal.{symbol_of}
use Rattle.law_edit_inserts.specs.sql_token.Token.{Text}
use Rattle.law_edit_inserts.specs.sql_tree.declared.kinds.PieceKind.TheVariants as piece
use Rattle.law_edit_inserts.specs.sql_tree.declared.kinds.StmtKind.TheVariants as stmt
use Rattle.law_edit_inserts.specs.sql_tree.declared.nodes.Action.{Action}
use Rattle.law_edit_inserts.specs.sql_tree.declared.nodes.Body.TheVariants as body
use Rattle.law_edit_inserts.specs.sql_tree.declared.nodes.Column.{Column}
use Rattle.law_edit_inserts.specs.sql_tree.declared.nodes.ColType.{ColType}
use Rattle.law_edit_inserts.specs.sql_tree.declared.nodes.Elem.{Elem}
use Rattle.law_edit_inserts.specs.sql_tree.declared.nodes.Elem.TheVariants as elem
use Rattle.law_edit_inserts.specs.sql_tree.declared.nodes.Piece.{Piece}
use Rattle.law_edit_inserts.specs.sql_tree.declared.nodes.Stmt.{Stmt}
use Rattle.law_edit_inserts.specs.sql_tree.declared.nodes.TyKind.TheVariants as kind
use Rattle.law_edit_inserts.specs.sql_tree.Statement.{Tree, IsTree}
use Rattle.law_edit_inserts.specs.law_renumber.Moved.{stmt_moved}
use Rattle.law_edit_types.specs.Names.{symbol_at, is_key_word}
use Rattle.law_edit_types.specs.Runs.{fused, worded_text, IsTypeName, IsApart, Worded}
use Rattle.law_edit_types.specs.Created.{TableHead, table_of}

-- The places of a column's type in a statement: a column that a CREATE TABLE lists or an ALTER TABLE adds, and an ALTER COLUMN
-- that sets the type.
pub data HasType (st : Stmt) (ty : ColType) : Type 0 where
  created : (head : TableHead) (earlier : List Elem) (c : Column) (later : List Elem) → st.kind ≡ stmt.CreateTable → st.body ≡ table_of head (earlier ++ elem.Column c ∷ later) →
      c.ty ≡ Some ty → HasType st ty
  added : (path : Option Span) (earlier : List Action) (b : Action) (later : List Action) (c : Column) → st.kind ≡ stmt.AlterTable → st.body ≡ body.Alter path (earlier ++ b ∷ later) →
      b.column ≡ Some c → c.ty ≡ Some ty → HasType st ty
  altered : (path : Option Span) (earlier : List Action) (b : Action) (later : List Action) (first : List Piece) (p : Piece) (others : List Piece) → st.kind ≡ stmt.AlterTable →
      st.body ≡ body.Alter path (earlier ++ b ∷ later) → b.pieces ≡ first ++ p ∷ others → p.kind ≡ piece.SetType → p.ty ≡ Some ty → HasType st ty

-- The text with a word in place of the last name of a path has the same tree, if neither is a key word. (With a key word it may
-- have another: in `a set DEFAULT 3` no default begins, since DEFAULT comes right after SET; in `a int8 DEFAULT 3` one does.)
abbrev pub NameReads : Type 0
NameReads =
    (tree : Tree) (before : List Stmt) (st : Stmt) (after : List Stmt) (ty : ColType) (w : Text) → IsTree tree → tree.stmts ≡ before ++ st ∷ after → HasType st ty → ty.kind ≡ kind.Path →
    is_key_word (symbol_at tree ty.name) ≡ false → IsTypeName w → symbol_of Word w ≡ s.Word → IsApart tree ty.name ty.name → length (worded_text tree ty.name ty.name w) < 2 ^ 32 →
    Worded tree ty.name ty.name w before (λ now. now ≡ stmt_moved (fused ty.name ty.name) st) after
