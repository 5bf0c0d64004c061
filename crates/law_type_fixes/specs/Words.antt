-- What the law of fixes on column types needs of reading: which types a statement has where the tokens of one of them became a word.
use Rattle.std.specs.Prelude.{◌≡◌, ◌<◌, ℕ, ◌^◌, true, List, [], ◌∷◌, ◌++◌, map, length, Option, Some, None}
use Rattle.pass_data_type.specs.sql_keyword.Find.{keyword_of}
use Rattle.pass_data_type.specs.sql_token.declared.terminal.Symbol.TheVariants as s
use Rattle.pass_data_type.specs.sql_token.declared.token.Span.{Span}
use Rattle.pass_data_type.specs.sql_token.declared.token.TokKind.TheVariants.{Word}
use Rattle.pass_data_type.specs.sql_token.Terminal.{symbol_of}
use Rattle.pass_data_type.specs.sql_token.Token.{Text}
use Rattle.pass_data_type.specs.sql_tree.declared.kinds.StmtKind.TheVariants as stmt
use Rattle.pass_data_type.specs.sql_tree.declared.nodes.Action.{Action}
use Rattle.pass_data_type.specs.sql_tree.declared.nodes.Body.TheVariants as body
use Rattle.pass_data_type.specs.sql_tree.declared.nodes.ColType.{ColType}
use Rattle.pass_data_type.specs.sql_tree.declared.nodes.Column.{Column}
use Rattle.pass_data_type.specs.sql_tree.declared.nodes.Stmt.{Stmt}
use Rattle.pass_data_type.specs.sql_tree.declared.nodes.TyKind.TheVariants as kind
use Rattle.pass_data_type.specs.sql_tree.Statement.{Tree, IsTree}
use Rattle.law_edit_types.specs.law_renumber.Moved.{action_moved, stmt_moved, type_moved}
use Rattle.law_edit_types.specs.Altered.{ActionNow, IsConstraint}
use Rattle.law_edit_types.specs.Runs.{fused, worded_text, IsTypeName, IsApart, Worded}
use Rattle.law_edit_types.specs.Types.{is_replaced}
use Rattle.pass_data_type.specs.lint_node.ColumnTypes.{column_types}
use Rattle.pass_data_type.specs.lint_transaction.Names.{name_at}

-- What is in the place of a type whose inner tokens became the word n: a path of that one name, without arguments. Or nothing,
-- if `Gone` says why.
pub data AreWord (n : ℕ) (Gone : Type 0) (types : List ColType) : Type 0 where
  path : (ty : ColType) → types ≡ ty ∷ [] → ty.kind ≡ kind.Path → ty.name ≡ n → ty.args ≡ None → AreWord n Gone types
  none : types ≡ [] → Gone → AreWord n Gone types

-- An ALTER TABLE adds a column of this type that is named `constraint`, and now it adds a constraint with the word for its name.
pub record AddsConstraint (tree : Tree) (st : Stmt) (ty : ColType) (now : Stmt) : Type 0 where
  pub path : Option Span
  pub earlier : List Action
  pub adds : Action
  pub later : List Action
  pub column : Column
  pub kind : st.kind ≡ stmt.AlterTable
  pub actions : st.body ≡ body.Alter path (earlier ++ adds ∷ later)
  pub has : adds.column ≡ Some column
  pub typed : column.ty ≡ Some ty
  pub is : ActionNow (fused ty.inner.first ty.inner.last) st path earlier
      (IsConstraint tree column ty.inner.first (action_moved (fused ty.inner.first ty.inner.last) adds)) later now

-- The statement's types are the old ones under their new numbers, and in the place of one of them are these.
pub record TypesNow (f : ℕ → ℕ) (earlier : List ColType) (Are : Stmt → List ColType → Type 0) (later : List ColType) (now : Stmt) : Type 0 where
  pub types : List ColType
  pub are : Are now types
  pub is : column_types now ≡ map (type_moved f) earlier ++ (types ++ map (type_moved f) later)

-- the statement with the word in the place of the type ty
abbrev pub WordNow : Tree → Stmt → List ColType → ColType → List ColType → Stmt → Type 0
WordNow tree st earlier ty later now =
    TypesNow (fused ty.inner.first ty.inner.last) earlier (λ now types. AreWord ty.inner.first (AddsConstraint tree st ty now) types) later now

-- where the inner tokens of a type become a word that names a type
abbrev pub InnersBecomeWords : Type 0
InnersBecomeWords =
    (tree : Tree) (before : List Stmt) (st : Stmt) (after : List Stmt) (earlier : List ColType) (ty : ColType) (later : List ColType) (w : Text) →
    IsTree tree → tree.stmts ≡ before ++ st ∷ after → column_types st ≡ earlier ++ ty ∷ later → is_replaced ty ≡ true →
    IsTypeName w → IsApart tree ty.inner.first ty.inner.last → length (worded_text tree ty.inner.first ty.inner.last w) < 2 ^ 32 →
    Worded tree ty.inner.first ty.inner.last w before (WordNow tree st earlier ty later) after

-- Where the last name of a path, which is no key word, becomes a word that is none either, nothing in the tree changes.
abbrev pub NamesBecomeWords : Type 0
NamesBecomeWords =
    (tree : Tree) (before : List Stmt) (st : Stmt) (after : List Stmt) (earlier : List ColType) (ty : ColType) (later : List ColType) (w : Text) →
    IsTree tree → tree.stmts ≡ before ++ st ∷ after → column_types st ≡ earlier ++ ty ∷ later → ty.kind ≡ kind.Path → keyword_of (name_at tree ty.name) ≡ None →
    IsTypeName w → symbol_of Word w ≡ s.Word → IsApart tree ty.name ty.name → length (worded_text tree ty.name ty.name w) < 2 ^ 32 →
    Worded tree ty.name ty.name w before (λ now. now ≡ stmt_moved (fused ty.name ty.name) st) after
