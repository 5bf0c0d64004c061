-- Tables that nobody else uses, as far as a text tells. A table is known by the names that statements give it: a CREATE with IF NOT EXISTS
-- counts too, and a search path, a DROP or a RENAME is not looked at.
use Rattle.std.specs.Prelude.{◌≡◌, ◌<◌, ℕ, Bool, true, false, Option, Some}
use Rattle.law_renumber.specs.sql_token.declared.token.Span.{Span}
use Rattle.law_renumber.specs.sql_tree.declared.nodes.Elem.{Elem}
use Rattle.law_renumber.specs.sql_tree.declared.nodes.Body.TheVariants as body
use Rattle.std.specs.Prelude.{List}
use Rattle.law_renumber.specs.sql_tree.Path.{path_cuts}
use Rattle.law_renumber.specs.sql_tree.Statement.{Tree}
use Rattle.hazard_find.specs.lint_transaction.Transaction.{created, ends_at, is_open, stmt_at}

-- the names of a path, each cut to what PostgreSQL tells names apart by
abbrev pub names : Tree → Span → List (List ℕ)
names tree path = path_cuts tree.text tree.toks path

-- An earlier statement of the same open transaction creates the table: nobody else can see it.
pub record IsCreatedInside (assumed : Bool) (tree : Tree) (i : ℕ) (path : Span) : Type 0 where
  pub number : ℕ
  pub made : Span
  pub is_earlier : number < i
  pub creates : created (stmt_at tree number) ≡ Some made
  pub same_names : names tree path ≡ names tree made
  pub is_open : is_open assumed tree number ≡ true
  pub no_end : (k : ℕ) → number < k → k < i → ends_at tree k ≡ false

-- An earlier statement creates the table as a temporary one: no other session can see it.
pub record IsTemporary (tree : Tree) (i : ℕ) (path : Span) : Type 0 where
  pub number : ℕ
  pub guarded : Bool
  pub on_commit_drop : Bool
  pub word : ℕ
  pub made : Span
  pub elements : List Elem
  pub is_earlier : number < i
  pub creates : (stmt_at tree number).body ≡ body.Table true guarded on_commit_drop word made elements
  pub same_names : names tree path ≡ names tree made

-- The statement names the table, and nobody else uses it.
pub data IsOurs (assumed : Bool) (tree : Tree) (i : ℕ) : Option Span → Type 0 where
  inside : (path : Span) → IsCreatedInside assumed tree i path → IsOurs assumed tree i (Some path)
  temporary : (path : Span) → IsTemporary tree i path → IsOurs assumed tree i (Some path)
