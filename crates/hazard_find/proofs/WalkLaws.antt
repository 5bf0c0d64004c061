-- What is kept, from one statement to the next.
use Rattle.std.proofs.Common.{◌≡◌, ◌∙◌, sym, ap, refl, ℕ, suc, ◌+◌, ◌<◌, add-one, Bool, true, false, ◌&&◌, ◌||◌, not, List, get_or, take, length}
use Rattle.std.proofs.lemmas.List.Folds.{list_any_more}
use Rattle.std.specs.List.{list_any}
use Rattle.lint_ignore.specs.sql_token.declared.token.Span.{Span}
use Rattle.lint_ignore.specs.sql_tree.declared.nodes.Stmt.{Stmt}
use Rattle.lint_ignore.specs.sql_tree.Statement.{Tree}
use Rattle.lint_transaction.specs.Earlier.{any_below, since}
use Rattle.lint_transaction.specs.Transaction.{is_path, same_path, stmt_at}
use Rattle.lint_transaction.proofs.EarlierLaws.{or_swap, since-suc}
use Rattle.lint_transaction.specs.SpanSet.{has_span}
use Rattle.lint_transaction.specs.Tracking.{IsTracking}
use Rattle.hazard_find.specs.Earlier.{drops, is_dropped, is_limited, is_made, is_temporary, last_cut, lock_timeout, made_view, statement_timeout, temporary_by}
use Rattle.hazard_find.specs.Timeouts.{changes, limits}
use Rattle.hazard_find.specs.Walk.{IsKept, Kept}

-- one number more
any_next : (p : ℕ → Bool) (i : ℕ) (old new : Bool) → old ≡ any_below p i → new ≡ (p i || old) → new ≡ any_below p (i + 1)
any_next p i old new o n = rw add-one (n ∙ (ap (λ b. p i || b) o ∙ or_swap (p i) (any_below p i)))

pub temporary_next : (tree : Tree) (i : ℕ) (s : Stmt) (path : List (List ℕ)) (old new : Bool) → s ≡ stmt_at tree i → old ≡ is_temporary tree path i
    → new ≡ (is_path tree (temporary_by s.body) path || old) → new ≡ is_temporary tree path (i + 1)
temporary_next tree i s path old new e o n =
    any_next (λ j. is_path tree (temporary_by (stmt_at tree j).body) path) i old new o
    (n ∙ ap (λ (x : Stmt). is_path tree (temporary_by x.body) path || old) e)

pub dropped_next : (tree : Tree) (i : ℕ) (s : Stmt) (name : List (List ℕ)) (old new : Bool) → s ≡ stmt_at tree i → old ≡ is_dropped tree name i
    → new ≡ (drops tree name s || old) → new ≡ is_dropped tree name (i + 1)
dropped_next tree i s name old new e o n =
    any_next (λ j. drops tree name (stmt_at tree j)) i old new o (n ∙ ap (λ (x : Stmt). drops tree name x || old) e)

pub made_next : (tree : Tree) (i : ℕ) (s : Stmt) (path : List (List ℕ)) (old new : Bool) → s ≡ stmt_at tree i → old ≡ is_made tree path i
    → new ≡ (is_path tree (made_view tree s) path || old) → new ≡ is_made tree path (i + 1)
made_next tree i s path old new e o n =
    any_next (λ j. is_path tree (made_view tree (stmt_at tree j)) path) i old new o
    (n ∙ ap (λ (x : Stmt). is_path tree (made_view tree x) path || old) e)

pub limited_next : (tree : Tree) (i : ℕ) (s : Stmt) (name : List ℕ) (old new : Bool) → s ≡ stmt_at tree i → old ≡ is_limited tree name i
    → new ≡ (limits tree name s || (old && not (changes tree name s))) → new ≡ is_limited tree name (i + 1)
limited_next tree i s name old new e o n =
    rw add-one
    (n
    ∙ ((λ k. limits tree name (e k) || (o k && not (changes tree name (e k))))
    ∙ sym (since-suc (λ j. limits tree name (stmt_at tree j)) (λ j. changes tree name (stmt_at tree j)) i)))

-- ---- the last names of some paths

swap_first : (a b c : Bool) → (b || (a || c)) ≡ ((a || b) || c)
swap_first true true c = refl
swap_first true false c = refl
swap_first false true c = refl
swap_first false false c = refl

pub name_more : (tree : Tree) (name : List (List ℕ)) (paths : List Span) (i : ℕ) (d : Span) (was old new : Bool) → i < length paths
    → old ≡ (list_any (λ (path : Span). same_path name (last_cut tree path.last)) (take i paths) || was)
    → new ≡ (same_path name (last_cut tree (get_or paths i d).last) || old)
    → new ≡ (list_any (λ (path : Span). same_path name (last_cut tree path.last)) (take (i + 1) paths) || was)
name_more tree name paths i d was old new within o n =
    let own : Span → Bool = λ path. same_path name (last_cut tree path.last) in
    n ∙ (ap (λ b. own (get_or paths i d) || b) o
    ∙ (swap_first (list_any own (take i paths)) (own (get_or paths i d)) was
    ∙ ap (λ b. b || was) (sym (list_any_more own paths i d within))))

-- what is kept after one more statement
pub kept_next : (tree : Tree) (assumed : Bool) (i : ℕ) (s : Stmt) (old new : Kept) → s ≡ stmt_at tree i
    → ((b : Bool) (n : ℕ) → s ≡ stmt_at tree n → IsTracking tree b n old.created → IsTracking tree b (n + 1) new.created)
    → ((path : List (List ℕ)) → has_span tree new.temporary path ≡ (is_path tree (temporary_by s.body) path || has_span tree old.temporary path))
    → ((name : List (List ℕ)) → has_span tree new.dropped name ≡ (drops tree name s || has_span tree old.dropped name))
    → ((path : List (List ℕ)) → has_span tree new.made path ≡ (is_path tree (made_view tree s) path || has_span tree old.made path))
    → new.lock_limited ≡ (limits tree lock_timeout s || (old.lock_limited && not (changes tree lock_timeout s)))
    → new.statement_limited ≡ (limits tree statement_timeout s || (old.statement_limited && not (changes tree statement_timeout s)))
    → IsKept tree assumed i old → IsKept tree assumed (i + 1) new
kept_next tree assumed i s old new e created temporary dropped made lock statement k = record {
  created = created assumed i e k.created;
  temporary = λ path. temporary_next tree i s path (has_span tree old.temporary path) (has_span tree new.temporary path) e (k.temporary path) (temporary path);
  dropped = λ name. dropped_next tree i s name (has_span tree old.dropped name) (has_span tree new.dropped name) e (k.dropped name) (dropped name);
  made = λ path. made_next tree i s path (has_span tree old.made path) (has_span tree new.made path) e (k.made path) (made path);
  lock_limited = limited_next tree i s lock_timeout old.lock_limited new.lock_limited e k.lock_limited lock;
  statement_limited = limited_next tree i s statement_timeout old.statement_limited new.statement_limited e k.statement_limited statement;
}
