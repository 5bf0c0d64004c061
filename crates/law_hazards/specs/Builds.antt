-- Indexes that are built, dropped or rebuilt CONCURRENTLY, and the timeouts that can cancel that (PostgreSQL manual: CREATE INDEX,
-- DROP INDEX, REINDEX, SET, RESET, DISCARD, the column indisvalid of pg_index, and section 20.11.1, lock_timeout and statement_timeout).
use Rattle.std.specs.Prelude.{◌≡◌, ◌<◌, ◌⊎◌, ℕ, ◌+◌, Bool, true, false, List, [], ◌∷◌, codes, length, Option, Some, Contains}
use Rattle.std.specs.List.{list_any}
use Rattle.std.specs.Str.{bytes_eq}
use Rattle.law_renumber.specs.sql_keyword.declared.words.TheConstants.Keyword as keyword
use Rattle.law_renumber.specs.sql_name.Name.{full_name}
use Rattle.law_renumber.specs.sql_token.declared.token.Span.{Span}
use Rattle.law_renumber.specs.sql_token.declared.token.Tok.{Tok}
use Rattle.law_renumber.specs.sql_token.declared.token.TokKind.TheVariants as kinds
use Rattle.law_renumber.specs.sql_token.Token.{Text, text_of}
use Rattle.law_renumber.specs.sql_tree.declared.kinds.StmtKind.TheVariants as stmt
use Rattle.law_renumber.specs.sql_tree.declared.nodes.Body.TheVariants as body
use Rattle.law_renumber.specs.sql_tree.declared.nodes.ReindexTarget.{ReindexTarget}
use Rattle.law_renumber.specs.sql_tree.declared.nodes.Stmt.{Stmt}
use Rattle.law_renumber.specs.sql_tree.Range.{token_at}
use Rattle.law_renumber.specs.sql_tree.Statement.{Tree}
use Rattle.hazard_find.specs.lint_transaction.Names.{name_at}
use Rattle.hazard_find.specs.lint_transaction.Transaction.{stmt_at}
use Rattle.hazard_find.specs.Shown.{bare, shows}
use Rattle.law_hazards.specs.Tables.{names}
use Rattle.law_hazards.specs.Words.{begin_with, is_key, shown, statement_tokens}

-- ---- builds

-- An index is built, dropped or rebuilt CONCURRENTLY. An option CONCURRENTLY of REINDEX that has a value is left out: it may be turned off.
pub data IsConcurrent (s : Stmt) : Type 0 where
  builds : (word mark : ℕ) (unique guarded : Bool) (name : Option ℕ) (path : Span) → s.body ≡ body.Index word unique (Some mark) guarded name path → IsConcurrent s
  drops : (word : ℕ) (guarded : Bool) (paths : List Span) → s.kind ≡ stmt.DropIndex → s.body ≡ body.Drop word true guarded paths → IsConcurrent s
  rebuilds : (aim : ReindexTarget) (word : ℕ) (path : Option Span) → s.body ≡ body.Reindex aim word true false path → IsConcurrent s

-- An earlier statement is a DROP INDEX IF EXISTS of an index of this name, in any schema.
pub record IsDroppedFirst (tree : Tree) (i name : ℕ) : Type 0 where
  pub number : ℕ
  pub word : ℕ
  pub concurrently : Bool
  pub paths : List Span
  pub path : Span
  pub is_earlier : number < i
  pub is_drop : (stmt_at tree number).kind ≡ stmt.DropIndex
  pub drops : (stmt_at tree number).body ≡ body.Drop word concurrently true paths
  pub has_path : Contains paths path
  pub same_name : names tree (record { first = name; last = name }) ≡ names tree (record { first = path.last; last = path.last })

-- A token of the statement, which is no comment, has the word in it, and outside of the comments of code that is a string. Its ASCII case
-- does not count.
pub record HasWord (tree : Tree) (s : Stmt) (word : List ℕ) : Type 0 where
  pub token : Tok
  pub is_token : Contains (statement_tokens tree s) token
  pub has_it : shows word (text_of tree.text token) ≡ true

-- A later statement is a DO or a SELECT that has the word indisvalid, and the name of the index without its quotes.
pub record IsLookedAtLater (tree : Tree) (i name : ℕ) : Type 0 where
  pub number : ℕ
  pub is_later : i < number
  pub is_there : number < length tree.stmts
  pub is_look : ((stmt_at tree number).kind ≡ stmt.Do) ⊎ ((stmt_at tree number).kind ≡ stmt.Select)
  pub has_column : HasWord tree (stmt_at tree number) (codes "indisvalid")
  pub has_name : HasWord tree (stmt_at tree number) (bare (text_of tree.text (token_at tree.toks name)))

-- ---- timeouts

-- the two timeouts
pub data IsTimeout : List ℕ → Type 0 where
  lock : IsTimeout (codes "lock_timeout")
  statement : IsTimeout (codes "statement_timeout")

-- no time at all: 0, alone or with a unit (written otherwise, as '0 ms', it counts as some time)
abbrev pub no_time : List (List ℕ)
no_time = codes "0" ∷ codes "'0'" ∷ codes "'0ms'" ∷ codes "'0s'" ∷ codes "'0min'" ∷ codes "'0h'" ∷ []

-- The statement is a SET of this parameter, for the session. Its name is compared as a column's is: in double quotes by its own letters.
pub record Sets (tree : Tree) (name : List ℕ) (s : Stmt) : Type 0 where
  pub path : Span
  pub sets : s.body ≡ body.Setting (Some path)
  pub one_name : path.first ≡ path.last
  pub is_name : name_at tree path.first ≡ name
  pub not_local : begin_with tree.text (keyword.SET ∷ keyword.LOCAL ∷ []) (statement_tokens tree s) ≡ false

-- The token is TO, or =.
abbrev pub IsTo : Text → Tok → Type 0
IsTo t tok = (is_key t keyword.TO tok ≡ true) ⊎ (text_of t tok ≡ codes "=")

-- The token is a number, or a string in single quotes, and not no time. A value with a sign, or in other quotes, is none.
pub record IsSomeTime (t : Text) (tok : Tok) : Type 0 where
  pub is_literal : (tok.kind ≡ kinds.Str) ⊎ (tok.kind ≡ kinds.Number)
  pub is_some : list_any (bytes_eq (text_of t tok)) no_time ≡ false

-- The statement is a SET that gives the timeout such a value, for the session.
pub record SetsTime (tree : Tree) (name : List ℕ) (s : Stmt) : Type 0 where
  pub sets : Sets tree name s
  pub sign : Tok
  pub value : Tok
  pub rest : List Tok
  pub tokens : shown tree (sets.path.last + 1) (s.last + 1) ≡ sign ∷ value ∷ rest
  pub is_to : IsTo tree.text sign
  pub is_time : IsSomeTime tree.text value

-- a dot and a token come first: the name before them goes on
abbrev pub goes_on : Text → List Tok → Bool
goes_on t [] = false
goes_on t (dot ∷ []) = false
goes_on t (dot ∷ tok ∷ toks) = bytes_eq (text_of t dot) (codes ".")

-- The statement ends what an earlier one set: another SET of the parameter, its RESET, RESET ALL, or DISCARD ALL. That a ROLLBACK may undo
-- it is not looked at.
pub data Unsets (tree : Tree) (name : List ℕ) (s : Stmt) : Type 0 where
  by_set : Sets tree name s → Unsets tree name s
  by_reset : (word first : Tok) (rest : List Tok) → s.kind ≡ stmt.Reset → statement_tokens tree s ≡ word ∷ first ∷ rest → is_key tree.text keyword.RESET word ≡ true
      → full_name (text_of tree.text first) ≡ name → goes_on tree.text rest ≡ false → Unsets tree name s
  by_reset_all : s.kind ≡ stmt.Reset → begin_with tree.text (keyword.RESET ∷ keyword.ALL ∷ []) (statement_tokens tree s) ≡ true → Unsets tree name s
  by_discard_all : s.kind ≡ stmt.Discard → begin_with tree.text (keyword.DISCARD ∷ keyword.ALL ∷ []) (statement_tokens tree s) ≡ true → Unsets tree name s

-- Between two statements of these numbers there is one that does so.
pub record IsUnsetBetween (tree : Tree) (name : List ℕ) (j i : ℕ) : Type 0 where
  pub number : ℕ
  pub is_later : j < number
  pub is_earlier : number < i
  pub unsets : Unsets tree name (stmt_at tree number)
