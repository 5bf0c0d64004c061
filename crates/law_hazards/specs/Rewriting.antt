-- What writes a whole table anew, or builds its indexes anew, while nobody can use it (PostgreSQL manual: VACUUM FULL, CLUSTER,
-- REINDEX, ALTER TABLE, and section 8.1.4, "Serial Types"). Not all of it is here: a rule speaks of a new type of a column, and nothing
-- of ALTER TABLE ALL IN TABLESPACE, nor of indexes and materialized views that an ALTER moves.
use Rattle.std.specs.Prelude.{◌≡◌, ℕ, pos, Bool, true, false, List, [], ◌∷◌, codes, slice_index_or, Option, Some, None, Contains}
use Rattle.std.specs.Int.Signed.{le_z}
use Rattle.law_renumber.specs.sql_keyword.declared.words.TheConstants.Keyword as keyword
use Rattle.law_renumber.specs.sql_token.declared.token.Span.{Span}
use Rattle.law_renumber.specs.sql_tree.declared.kinds.ActionKind.TheVariants as action
use Rattle.law_renumber.specs.sql_tree.declared.kinds.PieceKind.TheVariants as piece
use Rattle.law_renumber.specs.sql_tree.declared.kinds.StmtKind.TheVariants as stmt
use Rattle.law_renumber.specs.sql_tree.declared.nodes.Action.{Action}
use Rattle.law_renumber.specs.sql_tree.declared.nodes.Body.TheVariants as body
use Rattle.law_renumber.specs.sql_tree.declared.nodes.ColType.{ColType}
use Rattle.law_renumber.specs.sql_tree.declared.nodes.Column.{Column}
use Rattle.law_renumber.specs.sql_tree.declared.nodes.Piece.{Piece}
use Rattle.law_renumber.specs.sql_tree.declared.nodes.ReindexTarget.TheVariants as target
use Rattle.law_renumber.specs.sql_tree.declared.nodes.Stmt.{Stmt}
use Rattle.law_renumber.specs.sql_tree.Statement.{Tree}
use Rattle.hazard_find.specs.lint_base.declared.settings.LinterSettings.{LinterSettings}
use Rattle.hazard_find.specs.lint_transaction.Names.{is_listed}
use Rattle.law_hazards.specs.Words.{action_tokens, begin_with}

-- the names of the serial types
abbrev pub serial_names : List (List ℕ)
serial_names =
    codes "serial" ∷ codes "smallserial" ∷ codes "bigserial" ∷ codes "serial4" ∷ codes "serial2" ∷ codes "serial8" ∷ []

-- An action of an ALTER TABLE that writes the whole table anew.
pub data ActionRewrites (tree : Tree) (a : Action) : Type 0 where
  logged : begin_with tree.text (keyword.SET ∷ keyword.LOGGED ∷ []) (action_tokens tree a) ≡ true → ActionRewrites tree a
  unlogged : begin_with tree.text (keyword.SET ∷ keyword.UNLOGGED ∷ []) (action_tokens tree a) ≡ true → ActionRewrites tree a
  tablespace : begin_with tree.text (keyword.SET ∷ keyword.TABLESPACE ∷ []) (action_tokens tree a) ≡ true → ActionRewrites tree a
  access_method : begin_with tree.text (keyword.SET ∷ keyword.ACCESS ∷ keyword.METHOD ∷ []) (action_tokens tree a) ≡ true → ActionRewrites tree a
  expression : (p : Piece) → a.kind ≡ action.AlterColumn → Contains a.pieces p → p.kind ≡ piece.SetExpression → ActionRewrites tree a
  serial : (c : Column) (t : ColType) → a.kind ≡ action.AddColumn → a.column ≡ Some c → c.ty ≡ Some t → t.array ≡ false → t.inner.first ≡ t.inner.last
      → is_listed serial_names tree t.inner.first ≡ true → ActionRewrites tree a

-- The server is not known to be of version 19 or later, which has REPACK: there a rule speaks of VACUUM FULL and CLUSTER.
abbrev pub IsBeforeRepack : LinterSettings → Type 0
IsBeforeRepack settings = le_z (pos 19) (slice_index_or settings.pg_version 0 (pos 0)) ≡ false

-- A statement that does so, and the table that it names. For VACUUM FULL there is none, whatever it names: no transaction block takes it.
pub data Rewrites (settings : LinterSettings) (tree : Tree) (s : Stmt) : Option Span → Type 0 where
  vacuums : (tables : Option Span) → IsBeforeRepack settings → s.body ≡ body.Vacuum true tables → Rewrites settings tree s None
  clusters : (table : Option Span) (index : Option ℕ) → IsBeforeRepack settings → s.body ≡ body.Cluster table index → Rewrites settings tree s table
  rebuilds_system : (word : ℕ) (concurrent valued : Bool) (path : Option Span) → s.body ≡ body.Reindex target.System word concurrent valued path
      → Rewrites settings tree s None
  alters : (table : Option Span) (actions : List Action) (a : Action) → s.kind ≡ stmt.AlterTable → s.body ≡ body.Alter table actions → Contains actions a
      → ActionRewrites tree a → Rewrites settings tree s table
