-- What PostgreSQL refuses in a transaction block (PostgreSQL manual: the pages of these statements say "cannot be executed inside a
-- transaction block", or that they cannot be used in one). Not all of it is here. Of CREATE INDEX CONCURRENTLY a rule speaks. An option
-- CONCURRENTLY of REINDEX that has a value may be turned off. Whether a statement on a subscription is refused depends on its options,
-- and whether REINDEX or CLUSTER of one table is, on its partitions.
use Rattle.std.specs.Prelude.{◌≡◌, ℕ, Bool, true, false, List, [], ◌∷◌, Option, Some, None, Contains}
use Rattle.law_renumber.specs.sql_keyword.declared.words.TheConstants.Keyword as keyword
use Rattle.law_renumber.specs.sql_token.declared.token.Span.{Span}
use Rattle.law_renumber.specs.sql_tree.declared.kinds.ActionKind.TheVariants as action
use Rattle.law_renumber.specs.sql_tree.declared.kinds.StmtKind.TheVariants as stmt
use Rattle.law_renumber.specs.sql_tree.declared.nodes.Action.{Action}
use Rattle.law_renumber.specs.sql_tree.declared.nodes.Body.TheVariants as body
use Rattle.law_renumber.specs.sql_tree.declared.nodes.ReindexTarget.{ReindexTarget}
use Rattle.law_renumber.specs.sql_tree.declared.nodes.ReindexTarget.TheVariants as target
use Rattle.law_renumber.specs.sql_tree.declared.nodes.Stmt.{Stmt}
use Rattle.law_renumber.specs.sql_tree.Range.{token_at}
use Rattle.law_renumber.specs.sql_tree.Statement.{Tree}
use Rattle.law_hazards.specs.Words.{action_tokens, begin_with, is_key, statement_tokens}

-- A statement of indexes, tables or rows that a transaction block refuses.
pub data IsRefusedWork (tree : Tree) (s : Stmt) : Type 0 where
  drops_index : (word : ℕ) (guarded : Bool) (paths : List Span) → s.kind ≡ stmt.DropIndex → s.body ≡ body.Drop word true guarded paths → IsRefusedWork tree s
  rebuilds_concurrently : (aim : ReindexTarget) (word : ℕ) (path : Option Span) → s.body ≡ body.Reindex aim word true false path → IsRefusedWork tree s
  rebuilds_schema : (word : ℕ) (concurrent valued : Bool) (path : Option Span) → s.body ≡ body.Reindex target.Schema word concurrent valued path → IsRefusedWork tree s
  rebuilds_database : (word : ℕ) (concurrent valued : Bool) (path : Option Span) → s.body ≡ body.Reindex target.Database word concurrent valued path → IsRefusedWork tree s
  rebuilds_system : (word : ℕ) (concurrent valued : Bool) (path : Option Span) → s.body ≡ body.Reindex target.System word concurrent valued path → IsRefusedWork tree s
  vacuums : (full : Bool) (tables : Option Span) → s.body ≡ body.Vacuum full tables → IsRefusedWork tree s
  clusters_all : (index : Option ℕ) → s.body ≡ body.Cluster None index → IsRefusedWork tree s
  detaches : (path : Option Span) (actions : List Action) (a : Action) (word : ℕ) → s.kind ≡ stmt.AlterTable → s.body ≡ body.Alter path actions → Contains actions a
      → a.kind ≡ action.DetachPartition → a.word ≡ Some word → is_key tree.text keyword.CONCURRENTLY (token_at tree.toks word) ≡ true → IsRefusedWork tree s

-- A statement of the whole server, of a database or of the session that a transaction block refuses.
pub data IsRefusedByServer (tree : Tree) (s : Stmt) : Type 0 where
  creates_database : s.kind ≡ stmt.CreateDatabase → IsRefusedByServer tree s
  drops_database : s.kind ≡ stmt.DropDatabase → IsRefusedByServer tree s
  moves_database : (path : Option Span) (actions : List Action) (a : Action) → s.kind ≡ stmt.AlterDatabase → s.body ≡ body.Alter path actions → Contains actions a
      → begin_with tree.text (keyword.SET ∷ keyword.TABLESPACE ∷ []) (action_tokens tree a) ≡ true → IsRefusedByServer tree s
  creates_tablespace : s.kind ≡ stmt.CreateTablespace → IsRefusedByServer tree s
  drops_tablespace : s.kind ≡ stmt.DropTablespace → IsRefusedByServer tree s
  alters_system : s.kind ≡ stmt.AlterSystem → IsRefusedByServer tree s
  discards_all : s.kind ≡ stmt.Discard → begin_with tree.text (keyword.DISCARD ∷ keyword.ALL ∷ []) (statement_tokens tree s) ≡ true
      → IsRefusedByServer tree s
  commits_prepared : begin_with tree.text (keyword.COMMIT ∷ keyword.PREPARED ∷ []) (statement_tokens tree s) ≡ true → IsRefusedByServer tree s
  rolls_prepared_back : begin_with tree.text (keyword.ROLLBACK ∷ keyword.PREPARED ∷ []) (statement_tokens tree s) ≡ true → IsRefusedByServer tree s
