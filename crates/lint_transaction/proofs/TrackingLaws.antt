-- What is known of the open transaction goes on from statement to statement.
use Rattle.std.proofs.Common.{◌≡◌, ◌∙◌, sym, ap, refl, ℕ, suc, ◌+◌, add-one, Bool, true, false, ◌&&◌, ◌||◌, not, List, [], length, map}
use Rattle.std.proofs.lemmas.List.{nil_from_length}
use Rattle.std.specs.List.{list_any}
use Rattle.sql_tree.specs.declared.nodes.Stmt.{Stmt}
use Rattle.sql_tree.specs.Statement.{Tree}
use Rattle.lint_transaction.specs.Earlier.{any_below, since}
use Rattle.lint_transaction.specs.Transaction.{begins, ends, chains, creates, same_path, stmt_at, opens_at, ends_at, creates_at, is_open, is_new}
use Rattle.lint_transaction.specs.Tracking.{Known, IsAfter, IsTracking, holds}
use Rattle.lint_transaction.proofs.EarlierLaws.{since-suc}

open_next : (b s e f a : Bool) → ((b || (s && not e)) || (f && not (a || e))) ≡ (b || ((s || (f && not a)) && not e))
open_next true s e f a = refl
open_next false true true true true = refl
open_next false true true true false = refl
open_next false true true false true = refl
open_next false true true false false = refl
open_next false true false true true = refl
open_next false true false true false = refl
open_next false true false false true = refl
open_next false true false false false = refl
open_next false false true true true = refl
open_next false false true true false = refl
open_next false false true false true = refl
open_next false false true false false = refl
open_next false false false true true = refl
open_next false false false true false = refl
open_next false false false false true = refl
open_next false false false false false = refl

-- after statement i: it opens a transaction, or one was open before it and it does not end it
pub is_open-suc : (assumed : Bool) (tree : Tree) (i : ℕ) → is_open assumed tree (suc i) ≡ (opens_at tree i || (is_open assumed tree i && not (ends_at tree i)))
is_open-suc assumed tree i =
    ap (λ b. b || (assumed && not (any_below (ends_at tree) i || ends_at tree i))) (since-suc (opens_at tree) (ends_at tree) i)
    ∙ open_next (opens_at tree i) (since (opens_at tree) (ends_at tree) i) (ends_at tree i) assumed (any_below (ends_at tree) i)

-- after statement i: it creates the table in an open transaction, or the table was new and it does not end that
pub is_new-suc : (assumed : Bool) (tree : Tree) (path : List (List ℕ)) (i : ℕ) → is_new assumed tree path (suc i) ≡ (creates_at assumed tree path i || (is_new assumed tree path i && not (ends_at tree i)))
is_new-suc assumed tree path i = since-suc (creates_at assumed tree path) (ends_at tree) i

pub open_at_start : (assumed : Bool) (tree : Tree) → is_open assumed tree 0 ≡ assumed
open_at_start true tree = refl
open_at_start false tree = refl

-- after one more statement
pub open_next_stmt : (tree : Tree) (assumed : Bool) (i : ℕ) (s : Stmt) (old new : Bool) → s ≡ stmt_at tree i → old ≡ is_open assumed tree i → new ≡ (begins s || chains s || (old && not (ends s))) → new ≡ is_open assumed tree (i + 1)
open_next_stmt tree assumed i s old new e h n =
    rw add-one (n ∙ (λ x. begins (e x) || chains (e x) || (h x && not (ends (e x)))) ∙ sym (is_open-suc assumed tree i))

pub new_next_stmt : (tree : Tree) (assumed : Bool) (i : ℕ) (s : Stmt) (path : List (List ℕ)) (is_open_here old new : Bool) → s ≡ stmt_at tree i → is_open_here ≡ is_open assumed tree i → old ≡ is_new assumed tree path i → new ≡ ((creates tree path s && is_open_here) || (old && not (ends s))) → new ≡ is_new assumed tree path (i + 1)
new_next_stmt tree assumed i s path is_open_here old new e o h n =
    rw add-one (n ∙ (λ x. (creates tree path (e x) && o x) || (h x && not (ends (e x)))) ∙ sym (is_new-suc assumed tree path i))

-- before the first statement
pub tracking_start : (known : Known) (assumed : Bool) → known.is_open ≡ assumed → known.tables ≡ [] → (tree : Tree) → IsTracking tree assumed 0 known
tracking_start known assumed b p tree = record {
  open_here = b ∙ sym (open_at_start assumed tree);
  new_here = λ path. ap (list_any (same_path path)) p;
}

-- after one more statement
pub tracking_next : (tree : Tree) (assumed : Bool) (i : ℕ) (s : Stmt) (old new : Known) → s ≡ stmt_at tree i → IsAfter tree s old new → IsTracking tree assumed i old → IsTracking tree assumed (i + 1) new
tracking_next tree assumed i s old new e after h = record {
  open_here = open_next_stmt tree assumed i s old.is_open new.is_open e h.open_here after.open_after;
  new_here = λ path. new_next_stmt tree assumed i s path old.is_open (holds old path) (holds new path) e h.open_here (h.new_here path) (after.tables_after path);
}

-- where no table is known
pub none_new : {K : Type 0} (cuts : K → List (List ℕ)) (keys : List K) (tree : Tree) (assumed : Bool) (i : ℕ) (known : Known) (path : List (List ℕ)) → length keys ≡ 0
    → map cuts keys ≡ known.tables → IsTracking tree assumed i known → false ≡ is_new assumed tree path i
none_new cuts keys tree assumed i known path none same h =
    ap (λ ks. list_any (same_path path) (map cuts ks)) (sym (nil_from_length keys none)) ∙ ap (list_any (same_path path)) same ∙ h.new_here path

-- what is known of a table
pub new_where_held : (tree : Tree) (assumed : Bool) (i : ℕ) (known : Known) (path : List (List ℕ)) (b : Bool) → b ≡ holds known path → IsTracking tree assumed i known → b ≡ is_new assumed tree path i
new_where_held tree assumed i known path b held h = held ∙ h.new_here path
