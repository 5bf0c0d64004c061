-- Kinds, and the parts of an ALTER TABLE.
use Rattle.std.proofs.Common.{◌≡◌, ◌∙◌, sym, ap, subst, refl, rules, ℕ, Bool, true, false, cond, ◌&&◌, List, [], Option, Some, None, is_some, Contains, option_and_then, eq-eqb}
use Rattle.std.specs.List.{list_any}
use Rattle.std.specs.Str.{bytes_eq}
use Rattle.std.proofs.lemmas.Bool.{false≢true}
use Rattle.std.proofs.lemmas.List.Folds.{list_any-from_Any}
use Rattle.std.proofs.lemmas.Slice.Eq.{bytes_eq-Decides}
use denote.Enum.Bare.{same_true, true_same}
use Rattle.law_renumber.specs.sql_token.declared.token.Span.{Span}
use Rattle.law_renumber.specs.sql_tree.contracts.kinds.ActionKind as actions
use Rattle.law_renumber.specs.sql_tree.contracts.kinds.PieceKind as pieces
use Rattle.law_renumber.specs.sql_tree.contracts.kinds.StmtKind as kinds
use Rattle.law_renumber.specs.sql_tree.contracts.nodes.ConKind as constraints
use Rattle.law_renumber.specs.sql_tree.declared.kinds.ActionKind.{ActionKind}
use Rattle.law_renumber.specs.sql_tree.declared.kinds.ActionKind.TheVariants as action
use Rattle.law_renumber.specs.sql_tree.declared.kinds.PieceKind.{PieceKind}
use Rattle.law_renumber.specs.sql_tree.declared.kinds.StmtKind.{StmtKind}
use Rattle.law_renumber.specs.sql_tree.declared.kinds.StmtKind.TheVariants as stmt
use Rattle.law_renumber.specs.sql_tree.declared.nodes.Action.{Action}
use Rattle.law_renumber.specs.sql_tree.declared.nodes.Body.TheVariants as body
use Rattle.law_renumber.specs.sql_tree.declared.nodes.Column.{Column}
use Rattle.law_renumber.specs.sql_tree.declared.nodes.ConKind.{ConKind}
use Rattle.law_renumber.specs.sql_tree.declared.nodes.ColType.{ColType}
use Rattle.law_renumber.specs.sql_tree.declared.nodes.Stmt.{Stmt}
use Rattle.law_renumber.specs.sql_tree.Nodes.{actions_in}
use Rattle.law_renumber.specs.sql_tree.Statement.{Tree}
use Rattle.hazard_find.specs.lint_node.Altered.{altered_path, path_in}
use Rattle.hazard_find.specs.lint_node.ColumnTypes.{added_type}
use Rattle.hazard_find.specs.lint_node.Parts.{added_column, constraints_by, new_constraints, table_actions}
use Rattle.hazard_find.specs.lint_node.Same.{same_action, same_constraint, same_kind, same_piece}
use Rattle.hazard_find.specs.lint_transaction.Names.{is_one_name, name_at}
use Rattle.std.specs.Prelude.{nat_eq}
use Rattle.hazard_find.specs.Here.{table_by, table_of}

-- ---- kinds

pub kind_on : (a b : StmtKind) → a ≡ b → same_kind a b ≡ true
unfolding same_kind
kind_on a b e = true_same kinds.the_type a b e

pub kind_is : (a b : StmtKind) → same_kind a b ≡ true → a ≡ b
unfolding same_kind
kind_is a b e = same_true kinds.the_type (search rules) a b e

pub action_on : (a b : ActionKind) → a ≡ b → same_action a b ≡ true
unfolding same_action
action_on a b e = true_same actions.the_type a b e

pub piece_on : (a b : PieceKind) → a ≡ b → same_piece a b ≡ true
unfolding same_piece
piece_on a b e = true_same pieces.the_type a b e

pub constraint_on : (a b : ConKind) → a ≡ b → same_constraint a b ≡ true
unfolding same_constraint
constraint_on a b e = true_same constraints.the_type a b e

-- ---- tests

pub both_on : (a b : Bool) → a ≡ true → b ≡ true → (a && b) ≡ true
both_on a b e f = λ i. e i && f i

pub spoken : {X : Type 0} (o : Option X) → o ≡ None → is_some o ≡ true → ⊥
spoken o e h = false≢true (sym (ap is_some e) ∙ h)

pub some_where : {X : Type 0} (b : Bool) (x : X) → b ≡ true → is_some (cond b (Some x) None) ≡ true
some_where b x e = ap (λ c. is_some (cond c (Some x) None)) e

pub then_some : {X : Type 0} (b : Bool) (x : X) (o : Option X) → b ≡ true → is_some (cond b (Some x) o) ≡ true
then_some b x o e = ap (λ c. is_some (cond c (Some x) o)) e

pub else_some : {X : Type 0} (b : Bool) (x : X) (o : Option X) → is_some o ≡ true → is_some (cond b (Some x) o) ≡ true
else_some true x o h = refl
else_some false x o h = h

pub any_of : {X : Type 0} (p : X → Bool) (xs : List X) (x : X) → Contains xs x → p x ≡ true → list_any p xs ≡ true
any_of p xs x is h = list_any-from_Any p xs (is.0, x, is.1, is.2, h)

pub name_on : (tree : Tree) (path : Span) (name : List ℕ) → path.first ≡ path.last → name_at tree path.first ≡ name → is_one_name tree path name ≡ true
name_on tree path name one is =
    both_on (nat_eq path.first path.last) (bytes_eq name (name_at tree path.first)) (eq-eqb path.first path.last one)
    ((bytes_eq-Decides name (name_at tree path.first)).1 (sym is))

-- ---- an ALTER TABLE

module _ (s : Stmt) (table : Option Span) (of : List Action) (alters : s.kind ≡ stmt.AlterTable) (has : s.body ≡ body.Alter table of) where
  pub actions_are : table_actions s ≡ of
  actions_are = ap (λ (b : Bool). cond b (actions_in s.body) []) (kind_on s.kind stmt.AlterTable alters) ∙ ap actions_in has

  path_is : altered_path s ≡ table
  path_is = ap (λ (b : Bool). cond b (path_in s.body) None) (kind_on s.kind stmt.AlterTable alters) ∙ ap path_in has

  pub table_is : table_of s ≡ table
  unfolding table_of
  table_is = ap (λ b. table_by s b) has ∙ path_is

  pub action_in : (a : Action) → Contains of a → Contains (table_actions s) a
  action_in a is = subst (λ (xs : List Action). Contains xs a) (sym actions_are) is

-- ---- a new column

module _ (a : Action) (c : Column) (adds : a.kind ≡ action.AddColumn) (has : a.column ≡ Some c) where
  pub added_is : added_column a ≡ Some c
  added_is = ap (λ (b : Bool). cond b a.column None) (action_on a.kind action.AddColumn adds) ∙ has

  pub type_is : (t : ColType) → c.ty ≡ Some t → added_type a ≡ Some t
  type_is t e = ap (option_and_then (λ (c : Column). c.ty)) added_is ∙ e

  pub constraints_are : new_constraints a ≡ c.constraints
  constraints_are = ap (λ (b : Bool). cond b (constraints_by a.column) []) (action_on a.kind action.AddColumn adds) ∙ ap constraints_by has
