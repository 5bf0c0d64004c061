-- Columns that an ALTER TABLE adds (PostgreSQL manual, ALTER TABLE, CREATE TABLE and section 8.14, "JSON Types").
use Rattle.std.specs.Prelude.{◌≡◌, ◌+◌, false, List, [], ◌∷◌, codes, drop, Option, Some, Contains}
use Rattle.law_renumber.specs.sql_keyword.declared.words.TheConstants.Keyword as keyword
use Rattle.law_renumber.specs.sql_token.declared.token.Span.{Span}
use Rattle.law_renumber.specs.sql_token.declared.token.Tok.{Tok}
use Rattle.law_renumber.specs.sql_tree.declared.kinds.ActionKind.TheVariants as action
use Rattle.law_renumber.specs.sql_tree.declared.kinds.StmtKind.TheVariants as stmt
use Rattle.law_renumber.specs.sql_tree.declared.nodes.Action.{Action}
use Rattle.law_renumber.specs.sql_tree.declared.nodes.Body.TheVariants as body
use Rattle.law_renumber.specs.sql_tree.declared.nodes.ColType.{ColType}
use Rattle.law_renumber.specs.sql_tree.declared.nodes.Column.{Column}
use Rattle.law_renumber.specs.sql_tree.declared.nodes.ConKind.TheVariants as con
use Rattle.law_renumber.specs.sql_tree.declared.nodes.Constraint.{Constraint}
use Rattle.law_renumber.specs.sql_tree.declared.nodes.Stmt.{Stmt}
use Rattle.law_renumber.specs.sql_tree.Statement.{Tree}
use Rattle.hazard_find.specs.lint_transaction.Names.{name_at}
use Rattle.law_hazards.specs.Words.{begin_with, shown}

-- The statement is an ALTER TABLE of this table that adds this column.
pub record AddsColumn (s : Stmt) (table : Option Span) (c : Column) : Type 0 where
  pub actions : List Action
  pub addition : Action
  pub alters : s.kind ≡ stmt.AlterTable
  pub has_actions : s.body ≡ body.Alter table actions
  pub has_addition : Contains actions addition
  pub adds : addition.kind ≡ action.AddColumn
  pub has_column : addition.column ≡ Some c

-- the tokens of a constraint that follow the bracket behind its condition
abbrev pub behind : Tree → Constraint → Span → List Tok
behind tree k condition = drop 1 (shown tree (condition.last + 1) (k.last + 1))

-- Neither NOT ENFORCED nor NO INHERIT NOT ENFORCED follows the condition.
pub record IsEnforced (tree : Tree) (k : Constraint) (condition : Span) : Type 0 where
  pub at_once : begin_with tree.text (keyword.NOT ∷ keyword.ENFORCED ∷ []) (behind tree k condition) ≡ false
  pub after_no_inherit : begin_with tree.text (keyword.NO ∷ keyword.INHERIT ∷ keyword.NOT ∷ keyword.ENFORCED ∷ []) (behind tree k condition) ≡ false

-- The column has a CHECK that is enforced: PostgreSQL reads all rows for it.
pub record HasCheck (tree : Tree) (c : Column) : Type 0 where
  pub constraint : Constraint
  pub has_constraint : Contains c.constraints constraint
  pub checks : constraint.kind ≡ con.Check
  pub is_enforced : (condition : Span) → constraint.expr_span ≡ Some condition → IsEnforced tree constraint condition

-- The column is of type json, by that one name, and no array of it.
pub record IsJson (tree : Tree) (c : Column) : Type 0 where
  pub of_type : ColType
  pub has_type : c.ty ≡ Some of_type
  pub no_array : of_type.array ≡ false
  pub one_name : of_type.inner.first ≡ of_type.inner.last
  pub is_name : name_at tree of_type.inner.first ≡ codes "json"
