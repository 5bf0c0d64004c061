-- The type that an ALTER TABLE gives to a column becomes one word: the tree is the old one, that type aside.
use Rattle.std.specs.Prelude.{◌≡◌, ◌<◌, ℕ, ◌^◌, true, false, List, ◌∷◌, ◌++◌, map, length, Option, Some, None}
use Rattle.std.specs.Option.{option_map}
use Rattle.law_edit_inserts.specs.sql_keyword.declared.words.TheConstants.Keyword as keyword
use Rattle.law_edit_inserts.specs.sql_token.declared.terminal.Symbol.TheVariants as s
use Rattle.law_edit_inserts.specs.sql_token.declared.token.Span.{Span}
use Rattle.law_edit_inserts.specs.sql_token.Token.{Text}
use Rattle.law_edit_inserts.specs.sql_tree.declared.kinds.ActionKind.TheVariants as a
use Rattle.law_edit_inserts.specs.sql_tree.declared.kinds.PieceKind.TheVariants as piece
use Rattle.law_edit_inserts.specs.sql_tree.declared.kinds.StmtKind.TheVariants as stmt
use Rattle.law_edit_inserts.specs.sql_tree.declared.nodes.Action.{Action}
use Rattle.law_edit_inserts.specs.sql_tree.declared.nodes.Body.TheVariants as body
use Rattle.law_edit_inserts.specs.sql_tree.declared.nodes.Column.{Column}
use Rattle.law_edit_inserts.specs.sql_tree.declared.nodes.ColType.{ColType}
use Rattle.law_edit_inserts.specs.sql_tree.declared.nodes.Constraint.{Constraint}
use Rattle.law_edit_inserts.specs.sql_tree.declared.nodes.Piece.{Piece}
use Rattle.law_edit_inserts.specs.sql_tree.declared.nodes.Stmt.{Stmt}
use Rattle.law_edit_inserts.specs.sql_tree.Statement.{Tree, IsTree}
use Rattle.law_edit_inserts.specs.law_renumber.Moved.{span_moved, action_moved, piece_moved, stmt_moved}
use Rattle.law_edit_types.specs.Names.{symbol_at}
use Rattle.law_edit_types.specs.Runs.{fused, worded_text, IsTypeName, IsApart, Worded}
use Rattle.law_edit_types.specs.Types.{is_replaced, retyped_column, retyped_piece}

-- ---- ADD COLUMN

-- the action with that type for its column, and nothing else changed
abbrev pub retyped_action : ℕ → Action → Action
retyped_action n b = record b { column = option_map (retyped_column n) b.column }

-- Where the word COLUMN is not there, the column c may be named `constraint` (PostgreSQL reserves that word, the grammar here does
-- not). Then the word n may be the name of a constraint that ADD begins: `ADD constraint varchar(10) CHECK (a > 0)` adds a column, and
-- with `text` in place of its type it adds a constraint of the table. All else of the action stays.
pub record IsConstraint (tree : Tree) (c : Column) (n : ℕ) (b now : Action) : Type 0 where
  pub named : symbol_at tree c.name ≡ s.Keyword keyword.CONSTRAINT
  pub word : b.word ≡ None
  pub guarded : b.guarded ≡ false
  pub added : Constraint
  pub name : added.name ≡ Some n
  pub is : now ≡ record b { kind = a.AddConstraint; column = None; constraint = Some added }

-- What an action is where the type of its column c is the word n: the same action with that type, with this one exception.
pub data IsRetyped (tree : Tree) (c : Column) (n : ℕ) (b now : Action) : Type 0 where
  column : now ≡ retyped_action n b → IsRetyped tree c n b now
  constraint : IsConstraint tree c n b now → IsRetyped tree c n b now

-- The statement has an action that is so in place of the old one, and all else is the same under its new numbers.
pub record ActionNow (f : ℕ → ℕ) (st : Stmt) (path : Option Span) (earlier : List Action) (Is : Action → Type 0) (later : List Action) (now : Stmt) : Type 0 where
  pub action : Action
  pub has : Is action
  pub is : now ≡ record (stmt_moved f st) { body = body.Alter (option_map (span_moved f) path) (map (action_moved f) earlier ++ action ∷ map (action_moved f) later) }

-- The text with the word in place of the inner type of a column that an ALTER TABLE adds has such a tree.
abbrev pub AddedTypeReads : Type 0
AddedTypeReads =
    (tree : Tree) (before : List Stmt) (st : Stmt) (after : List Stmt) (path : Option Span) (earlier : List Action) (b : Action) (later : List Action) (c : Column) (ty : ColType) (w : Text) →
    IsTree tree → tree.stmts ≡ before ++ st ∷ after → st.kind ≡ stmt.AlterTable → st.body ≡ body.Alter path (earlier ++ b ∷ later) →
    b.column ≡ Some c → c.ty ≡ Some ty → is_replaced ty ≡ true →
    IsTypeName w → IsApart tree ty.inner.first ty.inner.last → length (worded_text tree ty.inner.first ty.inner.last w) < 2 ^ 32 →
    Worded tree ty.inner.first ty.inner.last w before
    (ActionNow (fused ty.inner.first ty.inner.last) st path earlier (IsRetyped tree c ty.inner.first (action_moved (fused ty.inner.first ty.inner.last) b)) later) after

-- ---- ALTER COLUMN with SET DATA TYPE

-- the action under its new numbers, with that type in the piece p, and nothing else changed
abbrev pub retyped_in : (ℕ → ℕ) → ℕ → Action → List Piece → Piece → List Piece → Action
retyped_in f n b first p others = record (action_moved f b) { pieces = map (piece_moved f) first ++ retyped_piece n (piece_moved f p) ∷ map (piece_moved f) others }

-- The text with the word in place of the inner type that an ALTER TABLE sets has such a tree.
abbrev pub SetTypeReads : Type 0
SetTypeReads =
    (tree : Tree) (before : List Stmt) (st : Stmt) (after : List Stmt) (path : Option Span) (earlier : List Action) (b : Action) (later : List Action) (first : List Piece) (p : Piece) (others : List Piece) (ty : ColType) (w : Text) →
    IsTree tree → tree.stmts ≡ before ++ st ∷ after → st.kind ≡ stmt.AlterTable → st.body ≡ body.Alter path (earlier ++ b ∷ later) →
    b.pieces ≡ first ++ p ∷ others → p.kind ≡ piece.SetType → p.ty ≡ Some ty → is_replaced ty ≡ true →
    IsTypeName w → IsApart tree ty.inner.first ty.inner.last → length (worded_text tree ty.inner.first ty.inner.last w) < 2 ^ 32 →
    Worded tree ty.inner.first ty.inner.last w before
    (ActionNow (fused ty.inner.first ty.inner.last) st path earlier (λ now. now ≡ retyped_in (fused ty.inner.first ty.inner.last) ty.inner.first b first p others) later) after
