-- What the body of a statement shows of its terminals.
use Rattle.std.specs.Prelude.{◌≡◌, ℕ, Bool, true, false, List, ◌∷◌, ◌++◌, length, Option, Some, None}
use Rattle.law_edit_cuts.specs.sql_keyword.declared.words.Keyword.{Keyword}
use Rattle.law_edit_cuts.specs.sql_keyword.declared.words.TheConstants.Keyword as keyword
use Rattle.law_edit_cuts.specs.sql_token.declared.token.Span.{Span}
use Rattle.law_edit_cuts.specs.sql_token.declared.terminal.Terminal.{Terminal}
use Rattle.law_edit_cuts.specs.sql_tree.declared.kinds.StmtKind.{StmtKind}
use Rattle.law_edit_cuts.specs.sql_tree.declared.kinds.StmtKind.TheVariants as stmt
use Rattle.law_edit_cuts.specs.sql_tree.declared.nodes.ReindexTarget.{ReindexTarget}
use Rattle.law_edit_cuts.specs.sql_tree.declared.nodes.Body.TheVariants as body
use Rattle.law_edit_cuts.specs.sql_tree.Split.{begins_with, begins_list, closing}
use Rattle.law_edit_cuts.specs.sql_tree.Tails.{target_word}
use Rattle.law_edit_cuts.specs.sql_tree.Statement.{form_of}
use Rattle.law_edit_cuts.specs.sql_tree.declared.nodes.Action.{Action}
use Rattle.law_edit_cuts.specs.sql_tree.Action.{several_actions}
use Rattle.std.specs.Option.{option_and_then}
use Rattle.law_edit_inserts.specs.Concurrently.{key}

-- CREATE INDEX without CONCURRENTLY: its word is the second terminal, or the third after UNIQUE.
pub data IndexShape (x : ℕ) : List Terminal → Type 0 where
  plain : {ts : List Terminal} (c : ℕ) (rest : List Terminal) → begins_with keyword.CONCURRENTLY rest ≡ false →
      ts ≡ key keyword.CREATE c ∷ key keyword.INDEX x ∷ rest → IndexShape x ts
  unique : {ts : List Terminal} (c u : ℕ) (rest : List Terminal) → begins_with keyword.CONCURRENTLY rest ≡ false →
      ts ≡ key keyword.CREATE c ∷ key keyword.UNIQUE u ∷ key keyword.INDEX x ∷ rest → IndexShape x ts

-- Each CREATE INDEX without the mark is written so.
abbrev pub CreateIndexShows : Type 0
CreateIndexShows =
    (ts : List Terminal) (kind : StmtKind) (x : ℕ) (unique guarded : Bool) (name : Option ℕ) (path : Span) →
    form_of ts ≡ Some (kind, body.Index x unique None guarded name path) → IndexShape x ts

-- DROP INDEX without CONCURRENTLY
pub record DropShape (x : ℕ) (ts : List Terminal) : Type 0 where
  pub first : ℕ
  pub rest : List Terminal
  pub none : begins_with keyword.CONCURRENTLY rest ≡ false
  pub parts : ts ≡ key keyword.DROP first ∷ key keyword.INDEX x ∷ rest

-- Each DROP INDEX without the mark is written so. (DROP TABLE and DROP TYPE have the same body: their kinds differ.)
abbrev pub DropIndexShows : Type 0
DropIndexShows =
    (ts : List Terminal) (x : ℕ) (guarded : Bool) (paths : List Span) →
    form_of ts ≡ Some (stmt.DropIndex, body.Drop x false guarded paths) → DropShape x ts

-- REINDEX that is not concurrent, with a bracket list of options or without one
pub data ReindexShape (found : ReindexTarget) (x : ℕ) : List Terminal → Type 0 where
  bare : {ts : List Terminal} (first : ℕ) (target : Keyword) (rest : List Terminal) → target_word target ≡ Some found → begins_with keyword.CONCURRENTLY rest ≡ false →
      ts ≡ key keyword.REINDEX first ∷ key target x ∷ rest → ReindexShape found x ts
  listed : {ts : List Terminal} (first : ℕ) (options : List Terminal) (target : Keyword) (rest : List Terminal) → target_word target ≡ Some found →
      begins_list options ≡ true → closing 0 0 (options ++ key target x ∷ rest) ≡ length options → begins_with keyword.CONCURRENTLY rest ≡ false →
      ts ≡ key keyword.REINDEX first ∷ (options ++ key target x ∷ rest) → ReindexShape found x ts

-- Each REINDEX without the mark is written so.
abbrev pub ReindexShows : Type 0
ReindexShows =
    (ts : List Terminal) (kind : StmtKind) (found : ReindexTarget) (x : ℕ) (valued : Bool) (path : Option Span) →
    form_of ts ≡ Some (kind, body.Reindex found x false valued path) → ReindexShape found x ts

-- ---- ALTER TABLE

-- Its actions are read of a tail of its terminals. After the first two of these, others may come: the path stays, and the
-- actions are those of the new tail. (Of two terminals, since a dot and a name would make the path longer.)
pub record AlterFront (ts : List Terminal) (path : Option Span) (t u : Terminal) (rest : List Terminal) : Type 0 where
  pub front : List Terminal
  pub parts : ts ≡ front ++ t ∷ u ∷ rest
  pub stays : (us : List Terminal) → form_of (front ++ t ∷ u ∷ us) ≡ option_and_then (λ actions. Some (stmt.AlterTable, body.Alter path actions)) (several_actions stmt.AlterTable (t ∷ u ∷ us))

pub record AlterShape (ts : List Terminal) (path : Option Span) (actions : List Action) : Type 0 where
  pub tail : List Terminal
  pub actions_are : several_actions stmt.AlterTable tail ≡ Some actions
  pub fronts : (t u : Terminal) (rest : List Terminal) → tail ≡ t ∷ u ∷ rest → AlterFront ts path t u rest

-- Each ALTER TABLE is written so.
abbrev pub AlterTableShows : Type 0
AlterTableShows =
    (ts : List Terminal) (path : Option Span) (actions : List Action) → form_of ts ≡ Some (stmt.AlterTable, body.Alter path actions) → AlterShape ts path actions
