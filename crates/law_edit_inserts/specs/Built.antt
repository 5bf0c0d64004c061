-- The word CONCURRENTLY in a text: from the statement or the action that lacks it to the tree that has it.
use Rattle.std.specs.Prelude.{◌≡◌, ◌<◌, ℕ, ◌+◌, ◌^◌, ◌==◌, Bool, false, if◌then◌else◌, List, ◌∷◌, ◌++◌, map, length, take, drop, Option, Some, None}
use Rattle.std.specs.Option.{option_map}
use Rattle.law_edit_cuts.specs.sql_keyword.declared.words.TheConstants.Keyword as keyword
use Rattle.law_edit_cuts.specs.sql_token.declared.terminal.Terminal.{Terminal}
use Rattle.law_edit_cuts.specs.sql_token.declared.token.Span.{Span}
use Rattle.law_edit_cuts.specs.sql_token.Depth.{statements}
use Rattle.law_edit_cuts.specs.sql_token.Terminal.{terminals}
use Rattle.law_edit_cuts.specs.sql_token.Token.{Text}
use Rattle.law_edit_cuts.specs.sql_tree.declared.kinds.ActionKind.TheVariants as a
use Rattle.law_edit_cuts.specs.sql_tree.declared.kinds.StmtKind.TheVariants as stmt
use Rattle.law_edit_cuts.specs.sql_tree.declared.nodes.Action.{Action}
use Rattle.law_edit_cuts.specs.sql_tree.declared.nodes.Body.TheVariants as body
use Rattle.law_edit_cuts.specs.sql_tree.declared.nodes.ReindexTarget.{ReindexTarget}
use Rattle.law_edit_cuts.specs.sql_tree.declared.nodes.Stmt.{Stmt}
use Rattle.law_edit_cuts.specs.sql_tree.Range.{token_at}
use Rattle.law_edit_cuts.specs.sql_tree.Statement.{Tree, IsTree}
use Rattle.law_edit_cuts.specs.law_renumber.Moved.{span_moved, action_moved, stmt_moved}
use Rattle.law_edit_cuts.specs.law_renumber.Renumber.{renumber}
use Rattle.law_edit_tokens.specs.Exchange.{exchanged, made_text, made_toks, reread}
use Rattle.law_edit_tokens.specs.Edits.{concurrently_made}
use Rattle.law_edit_tokens.specs.Terminals.{moved_number}
use Rattle.law_edit_inserts.specs.Concurrently.{key, concurrent_body, concurrent_action}

-- ---- the new text

-- the number of a token where two more come after token n: a blank and the word, whose number is n + 2
abbrev pub room_after : ℕ → ℕ → ℕ
room_after n = moved_number (n + 1) (n + 3)

-- the last token of what had the last token x: the word, where that was token n
abbrev pub end_after : ℕ → ℕ → ℕ
end_after n x = if x == n then n + 2 else room_after n x

-- the text with ` concurrently` after token n
abbrev pub concurrently_text : Tree → ℕ → Text
concurrently_text tree n = exchanged tree.text (token_at tree.toks n).end (token_at tree.toks n).end (made_text concurrently_made)

-- its tree, where one statement is `now`, and all others are the old ones under their new numbers
abbrev pub concurrently_tree : Tree → ℕ → List Stmt → Stmt → List Stmt → Tree
concurrently_tree tree n before now after = record {
  text = concurrently_text tree n;
  toks = reread (take (n + 1) tree.toks) (made_toks (token_at tree.toks n).end concurrently_made) (token_at tree.toks n).end
      ((token_at tree.toks n).end + length (made_text concurrently_made)) (drop (n + 1) tree.toks);
  stmts = map (stmt_moved (room_after n)) before ++ now ∷ map (stmt_moved (room_after n)) after;
}

-- The terminals of the new text are those of the old one, statement by statement, under their new numbers, and the word comes
-- after token n of one statement.
pub record WordAdded (tree new : Tree) (n : ℕ) : Type 0 where
  pub earlier : List (List Terminal)
  pub front : List Terminal
  pub t : Terminal
  pub tail : List Terminal
  pub later : List (List Terminal)
  pub number : t.number ≡ n
  pub old : statements (terminals tree.text tree.toks) ≡ earlier ++ (front ++ t ∷ tail) ∷ later
  pub now : statements (terminals new.text new.toks)
      ≡ map (map (renumber (room_after n))) earlier
      ++ (map (renumber (room_after n)) front ++ t ∷ key keyword.CONCURRENTLY (n + 2) ∷ map (renumber (room_after n)) tail)
      ∷ map (map (renumber (room_after n))) later

-- That is its tree, and so its terminals are.
pub record Reads (tree : Tree) (n : ℕ) (before : List Stmt) (now : Stmt) (after : List Stmt) : Type 0 where
  pub is : IsTree (concurrently_tree tree n before now after)
  pub terms : WordAdded tree (concurrently_tree tree n before now after) n

-- ---- CREATE INDEX, DROP INDEX and REINDEX

-- The statement takes the mark, and has none: its word INDEX, or the word of what is rebuilt, is token n.
pub data TakesConcurrently (n : ℕ) (s : Stmt) : Type 0 where
  index : (unique guarded : Bool) (name : Option ℕ) (path : Span) → s.body ≡ body.Index n unique None guarded name path → TakesConcurrently n s
  dropped : (guarded : Bool) (paths : List Span) → s.kind ≡ stmt.DropIndex → s.body ≡ body.Drop n false guarded paths → TakesConcurrently n s
  rebuilt : (found : ReindexTarget) (valued : Bool) (path : Option Span) → s.body ≡ body.Reindex found n false valued path → TakesConcurrently n s

-- The statement with the mark, under its new numbers: the mark is set, and nothing else changes. Only REINDEX of a whole
-- database, at the end of the text, can end with token n.
abbrev pub concurrent_stmt : ℕ → Stmt → Stmt
concurrent_stmt n s = record (stmt_moved (room_after n) s) { last = end_after n s.last; body = concurrent_body (n + 2) (stmt_moved (room_after n) s).body }

-- The text with the word after token n has this tree, and these terminals.
abbrev pub ConcurrentlyReads : Type 0
ConcurrentlyReads =
    (tree : Tree) (before : List Stmt) (s : Stmt) (after : List Stmt) (n : ℕ) → IsTree tree → tree.stmts ≡ before ++ s ∷ after → TakesConcurrently n s →
    length (concurrently_text tree n) < 2 ^ 32 → Reads tree n before (concurrent_stmt n s) after

-- ---- DETACH PARTITION

-- The action takes the mark, and has neither it nor FINALIZE: its path ends with token n.
pub record DetachTakesConcurrently (n : ℕ) (s : Stmt) (path : Option Span) (earlier : List Action) (b : Action) (later : List Action) : Type 0 where
  pub kind : s.kind ≡ stmt.AlterTable
  pub has : s.body ≡ body.Alter path (earlier ++ b ∷ later)
  pub detaches : b.kind ≡ a.DetachPartition
  pub none : b.word ≡ None
  pub ends : option_map (λ x. x.last) b.path ≡ Some n

-- The statement with the mark in that action, under its new numbers: the mark is the action's word and its last token, and
-- nothing else changes.
abbrev pub detached_stmt : ℕ → Stmt → Option Span → List Action → Action → List Action → Stmt
detached_stmt n s path earlier b later = record (stmt_moved (room_after n) s) {
  last = end_after n s.last;
  body = body.Alter (option_map (span_moved (room_after n)) path)
      (map (action_moved (room_after n)) earlier ++ concurrent_action (n + 2) (action_moved (room_after n) b) ∷ map (action_moved (room_after n)) later);
}

-- Each DETACH PARTITION with neither of the two words has a path, and ends with it.
abbrev pub DetachHasPath : Type 0
DetachHasPath =
    (tree : Tree) (before : List Stmt) (s : Stmt) (after : List Stmt) (path : Option Span) (earlier : List Action) (b : Action) (later : List Action) →
    IsTree tree → tree.stmts ≡ before ++ s ∷ after → s.kind ≡ stmt.AlterTable → s.body ≡ body.Alter path (earlier ++ b ∷ later) →
    b.kind ≡ a.DetachPartition → b.word ≡ None → (n : ℕ) × ((option_map (λ x. x.last) b.path ≡ Some n) × (b.last ≡ n))

-- The action begins before that token.
abbrev pub DetachBegins : Type 0
DetachBegins =
    (tree : Tree) (before : List Stmt) (s : Stmt) (after : List Stmt) (n : ℕ) (path : Option Span) (earlier : List Action) (b : Action) (later : List Action) →
    IsTree tree → tree.stmts ≡ before ++ s ∷ after → DetachTakesConcurrently n s path earlier b later → b.first < n

-- The text with the word after the path has this tree, and these terminals.
abbrev pub DetachReads : Type 0
DetachReads =
    (tree : Tree) (before : List Stmt) (s : Stmt) (after : List Stmt) (n : ℕ) (path : Option Span) (earlier : List Action) (b : Action) (later : List Action) →
    IsTree tree → tree.stmts ≡ before ++ s ∷ after → DetachTakesConcurrently n s path earlier b later → length (concurrently_text tree n) < 2 ^ 32 →
    Reads tree n before (detached_stmt n s path earlier b later) after
