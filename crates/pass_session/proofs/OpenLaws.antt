-- How what is known of transactions goes on from statement to statement.
use Rattle.std.proofs.Common.{◌≡◌, refl, sym, ◌∙◌, ap, ℕ, zero, suc, ◌+◌, ◌<◌, Bool, true, false, ◌&&◌, ◌||◌, not, cond, add-one, Option, Some, None, if◌then◌else◌, arith}
use Rattle.std.specs.Option.{option_map}
use Rattle.lint_pass.specs.sql_token.declared.token.Span.{Span}
use Rattle.lint_pass.specs.sql_tree.declared.nodes.Stmt.{Stmt}
use Rattle.lint_pass.specs.sql_tree.Statement.{Tree}
use Rattle.lint_pass.specs.lint_transaction.Earlier.{any_between}
use Rattle.lint_pass.specs.lint_transaction.Transaction.{is_begin_kind, stmt_at}
use Rattle.lint_pass.proofs.of_lint_transaction.EarlierLaws.{and_true, any_between-next, any_between-suc, since-suc}
use Rattle.lint_pass.specs.Blocks.{begins_at, ends_at, is_end_kind}
use Rattle.pass_session.specs.TransactionNesting.{is_in_transaction}
use Rattle.pass_session.specs.BanUncommittedTransaction.{is_left_open, last_below, left_open, tokens_of}

-- ---- whether a transaction is open

pub begun_next : (tree : Tree) (i : ℕ) (s : Stmt) (old new : Bool) → s ≡ stmt_at tree i → old ≡ is_in_transaction tree i → new ≡ (is_begin_kind s.kind || (old && not (is_end_kind s.kind))) → new ≡ is_in_transaction tree (i + 1)
begun_next tree i s old new e h n =
    rw add-one
    (n
    ∙ ((λ k. is_begin_kind (e k).kind || (h k && not (is_end_kind (e k).kind)))
    ∙ sym (since-suc (begins_at tree) (ends_at tree) i)))

-- ---- the transaction that is left open

last_same : (p q : ℕ → Bool) (n : ℕ) → ((k : ℕ) → k < n → p k ≡ q k) → last_below p n ≡ last_below q n
last_same p q zero h = refl
last_same p q (suc n) h =
    let here : p n ≡ q n = h n (omega arith) in
    let before = last_same p q n (λ k l. h k (omega arith)) in
    λ i. cond (here i) (Some n) (before i)

last_none : (p : ℕ → Bool) (n : ℕ) → last_below (λ k. p k && false) n ≡ None
last_none p zero = refl
last_none p (suc n) = ap (λ b. cond b (Some n) (last_below (λ k. p k && false) n)) (and_false (p n)) ∙ last_none p n
  where
    and_false : (b : Bool) → (b && false) ≡ false
    and_false true = refl
    and_false false = refl

last_unless : (p : ℕ → Bool) (r : Bool) (n : ℕ) → last_below (λ k. p k && not r) n ≡ cond r None (last_below p n)
last_unless p true n = last_none p n
last_unless p false n = last_same (λ k. p k && true) p n (λ k l. and_true (p k))

and_not_or : (a b r : Bool) → (a && not (b || r)) ≡ ((a && not b) && not r)
and_not_or true true r = refl
and_not_or true false r = refl
and_not_or false b r = refl

last-suc : (tree : Tree) (i : ℕ) → last_below (is_left_open tree (suc i)) (suc i) ≡ cond (begins_at tree i) (Some i) (cond (ends_at tree i) None (last_below (is_left_open tree i) i))
last-suc tree i =
    let here : is_left_open tree (suc i) i ≡ begins_at tree i =
    ap (λ b. begins_at tree i && not b) (any_between-next (ends_at tree) i) ∙ and_true (begins_at tree i)
    in
    let goes_on : (k : ℕ) → k < i → is_left_open tree (suc i) k ≡ (is_left_open tree i k && not (ends_at tree i)) =
    λ k l. ap (λ b. begins_at tree k && not b) (any_between-suc (ends_at tree) k i l) ∙ and_not_or (begins_at tree k) (any_between (ends_at tree) k i) (ends_at tree i)
    in
    let before : last_below (is_left_open tree (suc i)) i ≡ cond (ends_at tree i) None (last_below (is_left_open tree i) i) =
    last_same (is_left_open tree (suc i)) (λ k. is_left_open tree i k && not (ends_at tree i)) i goes_on ∙ last_unless (is_left_open tree i) (ends_at tree i) i
    in
    λ k. cond (here k) (Some i) (before k)

map_by : (f : ℕ → Span) (i : ℕ) (begin end : Bool) (o : Option ℕ) → option_map f (cond begin (Some i) (cond end None o)) ≡ cond begin (Some (f i)) (cond end None (option_map f o))
map_by f i true end o = refl
map_by f i false true o = refl
map_by f i false false o = refl

pub left_next : (tree : Tree) (i : ℕ) (s : Stmt) (old new : Option Span) → s ≡ stmt_at tree i → old ≡ left_open tree i
    → new ≡ (if is_begin_kind s.kind then Some (tokens_of s) else (if is_end_kind s.kind then None else old)) → new ≡ left_open tree (i + 1)
left_next tree i s old new e h n =
    let f : ℕ → Span = λ b. tokens_of (stmt_at tree b) in
    rw add-one
    (n
    ∙ ((λ k. cond (is_begin_kind (e k).kind) (Some (tokens_of (e k))) (cond (is_end_kind (e k).kind) None (h k)))
    ∙ (sym (map_by f i (begins_at tree i) (ends_at tree i) (last_below (is_left_open tree i) i))
    ∙ ap (option_map f) (sym (last-suc tree i)))))
