-- Runs of terminals whose brackets close in them: under other tests, and one after the other.
use Rattle.std.proofs.Common.{◌≡◌, ℕ, zero, suc, Bool, true, false, cond, List, [], ◌∷◌, ◌++◌, sym, refl, ap, ◌∙◌, arith}
use Rattle.std.proofs.lemmas.Bool.{false≢true}
use Rattle.std.proofs.lemmas.Bool.Decides.{nat_tests}
use Rattle.std.specs.Prelude.{◌==◌, ◌||◌, not}
use Rattle.law_edit_inserts.specs.sql_token.declared.terminal.Symbol.{Symbol}
use Rattle.law_edit_inserts.specs.sql_token.declared.terminal.Symbol.TheVariants as s
use Rattle.law_edit_inserts.specs.sql_token.declared.terminal.Terminal.{Terminal}
use Rattle.law_edit_inserts.specs.sql_token.Terminal.{is_opener, is_closer, is_name, is_dot, is_semicolon, is_opener_symbol, is_name_symbol, is_dot_symbol, is_semicolon_symbol}
use Rattle.law_edit_inserts.specs.sql_tree.Split.{is_comma_symbol}
use Rattle.law_edit_inserts.specs.law_edit_cuts.Runs.{is_run_from, is_closed, is_neutral, is_uncut, nowhere}
use Rattle.law_edit_inserts.proofs.of_law_edit_cuts.Nested.{Next, step, end_zero}
use Rattle.law_edit_inserts.proofs.of_law_edit_cuts.Nested.Next.{opens, closes, passes}
use Rattle.law_edit_types.specs.Runs.{is_unnamed, is_type_run}

-- ---- the next terminal of a run

-- put before the rest of a run
pub put : (test : Terminal → Bool) (d : ℕ) (t : Terminal) (run : List Terminal) → (d ≡ 0 → test t ≡ false) → Next test d t run → is_run_from test d (t ∷ run) ≡ true
put test zero t run quiet (opens p q f) = (let e = quiet refl in λ i. cond (e i) false (cond (p i) (is_run_from test 1 run) (cond (is_closer t) false (is_run_from test 0 run)))) ∙ f
put test zero t run quiet (closes below e p q f) = absurd (omega arith)
put test zero t run quiet (passes p q f) = (let e = quiet refl in λ i. cond (e i) false (cond (p i) (is_run_from test 1 run) (cond (q i) false (is_run_from test 0 run)))) ∙ f
put test (suc d) t run quiet (opens p q f) = (λ i. cond (p i) (is_run_from test (suc (suc d)) run) (cond (is_closer t) (is_run_from test d run) (is_run_from test (suc d) run))) ∙ f
put test (suc d) t run quiet (closes below e p q f) =
    let same : below ≡ d = omega (arith, e) in
    (λ i. cond (p i) (is_run_from test (suc (suc d)) run) (cond (q i) (is_run_from test d run) (is_run_from test (suc d) run))) ∙ ap (λ (x : ℕ). is_run_from test x run) (sym same) ∙ f
put test (suc d) t run quiet (passes p q f) = (λ i. cond (p i) (is_run_from test (suc (suc d)) run) (cond (q i) (is_run_from test d run) (is_run_from test (suc d) run))) ∙ f

-- the same terminal before another rest
pub next_to : (test other : Terminal → Bool) (d : ℕ) (t : Terminal) (run new : List Terminal) → Next test d t run → ((x : ℕ) → is_run_from test x run ≡ true → is_run_from other x new ≡ true) → Next other d t new
next_to test other d t run new (opens p q f) each = opens p q (each (suc d) f)
next_to test other d t run new (closes below e p q f) each = closes below e p q (each below f)
next_to test other d t run new (passes p q f) each = passes p q (each d f)

-- ---- other tests

-- a run under a test that passes less
pub run_under : (test other : Terminal → Bool) → ((t : Terminal) → test t ≡ false → other t ≡ false) → (d : ℕ) (run : List Terminal) → is_run_from test d run ≡ true → is_run_from other d run ≡ true
run_under test other less zero [] h = h
run_under test other less (suc d) [] h = h
run_under test other less d (t ∷ run) h =
    let here = step test d t run h in
    put other d t run (λ e. less t (here.quiet e)) (next_to test other d t run run here.next (λ x f. run_under test other less x run f))

named_symbol : (x : Symbol) → not (is_opener_symbol x || is_name_symbol x || is_dot_symbol x) ≡ false → (is_comma_symbol x ≡ false) × (is_semicolon_symbol x ≡ false)
named_symbol s.OpenRound h = (refl, refl)
named_symbol s.OpenSquare h = (refl, refl)
named_symbol (s.Keyword w) h = (refl, refl)
named_symbol s.Word h = (refl, refl)
named_symbol s.Quoted h = (refl, refl)
named_symbol s.Dot h = (refl, refl)
named_symbol x h = absurd (false≢true (sym h))

named_quiet : (t : Terminal) → is_unnamed t ≡ false → (is_comma_symbol t.symbol ≡ false) × (is_semicolon t ≡ false)
unfolding is_opener is_name is_dot is_semicolon
named_quiet t h = named_symbol t.symbol h

pub run_neutral : (run : List Terminal) → is_type_run run ≡ true → is_neutral run ≡ true
run_neutral run h = run_under is_unnamed is_semicolon (λ t e. (named_quiet t e).1) 0 run h

pub run_uncut : (run : List Terminal) → is_type_run run ≡ true → is_uncut run ≡ true
run_uncut run h = run_under is_unnamed _ (λ t e. (named_quiet t e).0) 0 run h

pub run_closed : (run : List Terminal) → is_type_run run ≡ true → is_closed run ≡ true
run_closed run h = run_under is_unnamed nowhere (λ t e. refl) 0 run h

-- ---- one after the other

no_zero : (d : ℕ) → (suc d == 0) ≡ false
no_zero d = grind (arith, nat_tests)

pub run_join : (test : Terminal → Bool) (d : ℕ) (xs ys : List Terminal) → is_run_from test d xs ≡ true → is_run_from test 0 ys ≡ true → is_run_from test d (xs ++ ys) ≡ true
run_join test zero [] ys h g = g
run_join test (suc d) [] ys h g = absurd (false≢true (sym (no_zero d) ∙ h))
run_join test d (x ∷ xs) ys h g =
    let here = step test d x xs h in
    put test d x (xs ++ ys) here.quiet (next_to test test d x xs (xs ++ ys) here.next (λ n f. run_join test n xs ys f g))

both_next : (R : Type 0) (test other : Terminal → Bool) (d : ℕ) (t : Terminal) (xs ys : List Terminal) → Next test d t xs → Next other d t ys → ((x : ℕ) → is_run_from test x xs ≡ true → is_run_from other x ys ≡ true → R) → R
both_next R test other d t xs ys (opens p q f) (opens p' q' f') each = each (suc d) f f'
both_next R test other d t xs ys (opens p q f) (closes below' e' p' q' f') each = absurd (false≢true (sym p' ∙ p))
both_next R test other d t xs ys (opens p q f) (passes p' q' f') each = absurd (false≢true (sym p' ∙ p))
both_next R test other d t xs ys (closes below e p q f) (opens p' q' f') each = absurd (false≢true (sym p ∙ p'))
both_next R test other d t xs ys (closes below e p q f) (closes below' e' p' q' f') each =
    let same : below' ≡ below = omega (arith, e, e') in each below f (ap (λ (x : ℕ). is_run_from other x ys) (sym same) ∙ f')
both_next R test other d t xs ys (closes below e p q f) (passes p' q' f') each = absurd (false≢true (sym q' ∙ q))
both_next R test other d t xs ys (passes p q f) (opens p' q' f') each = absurd (false≢true (sym p ∙ p'))
both_next R test other d t xs ys (passes p q f) (closes below' e' p' q' f') each = absurd (false≢true (sym q ∙ q'))
both_next R test other d t xs ys (passes p q f) (passes p' q' f') each = each d f f'

-- what follows a closed run in a run
pub run_rest : (test : Terminal → Bool) (d : ℕ) (xs ys : List Terminal) → is_run_from nowhere d xs ≡ true → is_run_from test d (xs ++ ys) ≡ true → is_run_from test 0 ys ≡ true
run_rest test d [] ys h g = ap (λ (x : ℕ). is_run_from test x ys) (sym (end_zero d h)) ∙ g
run_rest test d (x ∷ xs) ys h g =
    both_next (is_run_from test 0 ys ≡ true) nowhere test d x xs (xs ++ ys) (step nowhere d x xs h).next (step test d x (xs ++ ys) g).next (λ n f e. run_rest test n xs ys f e)
