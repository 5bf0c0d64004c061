-- A table that is not old is ours.
use Rattle.std.proofs.Common.{◌≡◌, refl, ℕ, inl, inr, Bool, true, false, List, Option, Some, None}
use Rattle.std.proofs.lemmas.Bool.{and_parts, or_cases, false≢true, true≢false}
use Rattle.law_renumber.specs.sql_token.declared.token.Span.{Span}
use Rattle.law_renumber.specs.sql_tree.declared.nodes.Body.{Body}
use Rattle.law_renumber.specs.sql_tree.declared.nodes.Body.TheVariants as body
use Rattle.law_renumber.specs.sql_tree.declared.nodes.Elem.{Elem}
use Rattle.law_renumber.specs.sql_tree.Statement.{Tree}
use Rattle.hazard_find.specs.lint_transaction.Transaction.{created, creates, creates_at, ends_at, is_new, is_open, is_path, stmt_at}
use Rattle.hazard_find.proofs.of_lint_transaction.Paths.{same_so}
use Rattle.hazard_find.specs.Earlier.{is_old, is_temporary, temporary_by}
use Rattle.law_hazards.specs.Tables.{IsCreatedInside, IsOurs, IsTemporary, names}
use Rattle.law_hazards.specs.Tables.IsOurs.{inside, temporary}
use Rattle.law_hazards.proofs.Numbers.{found_below, is_so, since_marked}

-- a path that is given, and its names
pub named : (tree : Tree) (o : Option Span) (path : List (List ℕ)) → is_path tree o path ≡ true → (made : Span) × (o ≡ Some made) × (path ≡ names tree made)
named tree None path h = absurd (false≢true h)
named tree (Some made) path h = (made, refl, same_so path (names tree made) h)

-- the table that a CREATE TABLE makes as a temporary one
record Temporary (tree : Tree) (path : List (List ℕ)) (b : Body) : Type 0 where
  guarded : Bool
  on_commit_drop : Bool
  word : ℕ
  made : Span
  elements : List Elem
  is_table : b ≡ body.Table true guarded on_commit_drop word made elements
  same_names : path ≡ names tree made

temporary_is : (tree : Tree) (path : List (List ℕ)) (b : Body) → is_path tree (temporary_by b) path ≡ true → Temporary tree path b
temporary_is tree path (body.Table true guarded on_commit_drop word made elements) h = record {
  guarded = guarded;
  on_commit_drop = on_commit_drop;
  word = word;
  made = made;
  elements = elements;
  is_table = refl;
  same_names = same_so path (names tree made) h;
}
temporary_is tree path _ h = absurd (false≢true h)

created_inside : (assumed : Bool) (tree : Tree) (i : ℕ) (path : Span) → is_new assumed tree (names tree path) i ≡ true → IsCreatedInside assumed tree i path
created_inside assumed tree i path h =
    let m = since_marked (creates_at assumed tree (names tree path)) (ends_at tree) i h in
    let both = and_parts (creates tree (names tree path) (stmt_at tree m.number)) (is_open assumed tree m.number) m.is_marked in
    let made = named tree (created (stmt_at tree m.number)) (names tree path) both.0 in
    record {
      number = m.number;
      made = made.0;
      is_earlier = m.is_below;
      creates = made.1;
      same_names = made.2;
      is_open = both.1;
      no_end = m.no_reset;
    }

made_temporary : (tree : Tree) (i : ℕ) (path : Span) → is_temporary tree (names tree path) i ≡ true → IsTemporary tree i path
made_temporary tree i path h =
    let f = found_below (λ j. is_path tree (temporary_by (stmt_at tree j).body) (names tree path)) i h in
    let t = temporary_is tree (names tree path) (stmt_at tree f.number).body f.passes in
    record {
      number = f.number;
      guarded = t.guarded;
      on_commit_drop = t.on_commit_drop;
      word = t.word;
      made = t.made;
      elements = t.elements;
      is_earlier = f.is_below;
      creates = t.is_table;
      same_names = t.same_names;
    }

pub ours : (assumed : Bool) (tree : Tree) (i : ℕ) (table : Option Span) → is_old assumed tree i table ≡ false → IsOurs assumed tree i table
unfolding is_old
ours assumed tree i None h = absurd (true≢false h)
ours assumed tree i (Some path) h =
    elim (or_cases (is_new assumed tree (names tree path) i) (is_temporary tree (names tree path) i) (is_so _ h)) [
      | inl new ↦ inside path (created_inside assumed tree i path new)
      | inr temp ↦ temporary path (made_temporary tree i path temp)
    ]
