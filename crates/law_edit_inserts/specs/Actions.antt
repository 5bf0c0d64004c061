-- One action of ALTER TABLE changes, at its place.
use Rattle.std.specs.Prelude.{◌≡◌, ◌≤◌, ◌⊎◌, ℕ, true, List, [], ◌∷◌, ◌++◌, length, Option, Some, None}
use Rattle.law_edit_cuts.specs.sql_keyword.declared.words.TheConstants.Keyword as keyword
use Rattle.law_edit_cuts.specs.sql_token.declared.token.Span.{Span}
use Rattle.law_edit_cuts.specs.sql_token.declared.terminal.Terminal.{Terminal}
use Rattle.law_edit_cuts.specs.sql_token.Depth.{opened, closed}
use Rattle.law_edit_cuts.specs.sql_token.Terminal.{is_name}
use Rattle.law_edit_cuts.specs.sql_tree.declared.kinds.ActionKind.TheVariants as a
use Rattle.law_edit_cuts.specs.sql_tree.declared.kinds.StmtKind.TheVariants as stmt
use Rattle.law_edit_cuts.specs.sql_tree.declared.nodes.Action.{Action}
use Rattle.law_edit_cuts.specs.sql_tree.declared.nodes.Body.TheVariants as body
use Rattle.law_edit_cuts.specs.sql_tree.Action.{action}
use Rattle.law_edit_cuts.specs.sql_tree.Forms.{names_end}
use Rattle.law_edit_cuts.specs.sql_tree.Statement.{form_of}
use Rattle.law_edit_tokens.specs.Beside.{begins_punct_or_ends}
use Rattle.law_edit_cuts.specs.Runs.{is_uncut}
use Rattle.law_edit_inserts.specs.Concurrently.{key}

-- The statement of ts has the run between p and q in one of its actions. With another run there, that action is what its new
-- terminals give, and all others stay.
pub record ActionChangesAt (ts : List Terminal) (path : Option Span) (before after : List Action) (p run q : List Terminal) : Type 0 where
  pub front : List Terminal
  pub tail : List Terminal
  pub parts : ts ≡ front ++ (run ++ tail)
  pub earlier : List Terminal
  pub there : front ≡ earlier ++ p
  pub becomes : (u : Terminal) (new : List Terminal) (b : Action) → is_uncut (u ∷ new) ≡ true → action stmt.AlterTable (p ++ ((u ∷ new) ++ q)) ≡ Some b →
      form_of (front ++ ((u ∷ new) ++ tail)) ≡ Some (stmt.AlterTable, body.Alter path (before ++ b ∷ after))
  -- a comma or nothing, where the run ends its action
  pub ends : q ≡ [] → begins_punct_or_ends tail ≡ true

-- The terminals that an action is read of. (Two come before the run, as a key word and a name do, and close no bracket too
-- many.)
pub record ActionAt (ts : List Terminal) (path : Option Span) (before : List Action) (b : Action) (after : List Action) : Type 0 where
  pub here : List Terminal
  pub is : action stmt.AlterTable here ≡ Some b
  -- as many openers as closers, or nothing follows it
  pub ends : 2 ≤ length here → (opened here ≡ closed here) ⊎ ((front : List Terminal) × (ts ≡ front ++ here))
  pub changes : (p : List Terminal) (r : Terminal) (run q : List Terminal) → here ≡ p ++ ((r ∷ run) ++ q) → is_uncut (r ∷ run) ≡ true → 2 ≤ length p → closed p ≤ opened p →
      ActionChangesAt ts path before after p (r ∷ run) q

-- Each action of ALTER TABLE is at such a place.
abbrev pub ActionShows : Type 0
ActionShows =
    (ts : List Terminal) (path : Option Span) (before : List Action) (b : Action) (after : List Action) →
    form_of ts ≡ Some (stmt.AlterTable, body.Alter path (before ++ b ∷ after)) → ActionAt ts path before b after

-- ---- DETACH PARTITION

-- with neither CONCURRENTLY nor FINALIZE: it begins with DETACH, and ends with its path, the names from t to token e
pub record DetachShape (ts : List Terminal) (b : Action) : Type 0 where
  pub detach : ℕ
  pub partition : ℕ
  pub t : Terminal
  pub path : List Terminal
  pub e : ℕ
  pub parts : ts ≡ key keyword.DETACH detach ∷ key keyword.PARTITION partition ∷ t ∷ path
  pub name : is_name t ≡ true
  pub ends : names_end t.number path ≡ (e, [])
  pub path_is : b.path ≡ Some (record { first = t.number; last = e })
  pub begins : b.first ≡ detach
  pub last : b.last ≡ e

-- Each DETACH PARTITION with neither of the two words is written so.
abbrev pub DetachShows : Type 0
DetachShows = (ts : List Terminal) (b : Action) → action stmt.AlterTable ts ≡ Some b → b.kind ≡ a.DetachPartition → b.word ≡ None → DetachShape ts b
