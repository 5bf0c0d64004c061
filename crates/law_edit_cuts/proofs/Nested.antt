-- What is next in a run, and what its counts are.
use Rattle.std.proofs.Common.{◌≡◌, ◌≤◌, ℕ, zero, suc, ◌+◌, Bool, true, false, cond, List, [], ◌∷◌, take, sym, refl, ap, ◌∙◌, arith}
use Rattle.std.proofs.lemmas.Bool.{false≢true}
use Rattle.std.proofs.lemmas.Bool.Decides.{nat_tests}
use Rattle.std.specs.Prelude.{◌==◌, ◌&&◌, slice_index_or}
use Rattle.law_renumber.specs.sql_token.declared.terminal.Terminal.{Terminal}
use Rattle.law_renumber.specs.sql_token.Terminal.{is_opener, is_closer, is_semicolon}
use Rattle.law_renumber.specs.sql_token.Depth.{opened, closed, nothing}
use Rattle.law_edit_cuts.specs.Runs.{is_run_from, nowhere, is_comma}
use Rattle.law_edit_cuts.specs.Exchanges.{ClosedIsLevel, LevelIsClosed, NeutralEndsNone, UncutHasNone}

-- an opener is no closer
pub open_not_closed : (t : Terminal) → is_opener t ≡ true → is_closer t ≡ false
unfolding is_opener is_closer
open_not_closed t h = grind arith

pub end_zero : (d : ℕ) → (d == 0) ≡ true → d ≡ 0
end_zero d h = grind (arith, nat_tests)

pub opened_is : (t : Terminal) (e : List Terminal) (b : Bool) → is_opener t ≡ b → opened (t ∷ e) ≡ cond b (suc (opened e)) (opened e)
opened_is t e b h = λ i. cond (h i) (suc (opened e)) (opened e)

pub closed_is : (t : Terminal) (e : List Terminal) (b : Bool) → is_closer t ≡ b → closed (t ∷ e) ≡ cond b (suc (closed e)) (closed e)
closed_is t e b h = λ i. cond (h i) (suc (closed e)) (closed e)

-- ---- the next terminal of a run, d brackets deep

pub data Next (test : Terminal → Bool) (d : ℕ) (t : Terminal) (run : List Terminal) : Type 0 where
  opens : is_opener t ≡ true → is_closer t ≡ false → is_run_from test (suc d) run ≡ true → Next test d t run
  closes : (below : ℕ) → d ≡ suc below → is_opener t ≡ false → is_closer t ≡ true → is_run_from test below run ≡ true → Next test d t run
  passes : is_opener t ≡ false → is_closer t ≡ false → is_run_from test d run ≡ true → Next test d t run

pub record Step (test : Terminal → Bool) (d : ℕ) (t : Terminal) (run : List Terminal) : Type 0 where
  pub next : Next test d t run
  pub quiet : d ≡ 0 → test t ≡ false

pub step : (test : Terminal → Bool) (d : ℕ) (t : Terminal) (run : List Terminal) → is_run_from test d (t ∷ run) ≡ true → Step test d t run
step test zero t run h = by (test t) (is_opener t) (is_closer t) refl refl refl h
  where
    by : (a b c : Bool) → test t ≡ a → is_opener t ≡ b → is_closer t ≡ c → cond a false (cond b (is_run_from test 1 run) (cond c false (is_run_from test 0 run))) ≡ true → Step test 0 t run
    by true b c p q r h = absurd (false≢true h)
    by false true c p q r h = record { next = opens q (open_not_closed t q) h; quiet = λ e. p }
    by false false true p q r h = absurd (false≢true h)
    by false false false p q r h = record { next = passes q r h; quiet = λ e. p }
step test (suc d) t run h = record { next = by (is_opener t) (is_closer t) refl refl h; quiet = λ e. absurd (no e) }
  where
    no : suc d ≡ 0 → ⊥
    no e = omega arith

    by : (b c : Bool) → is_opener t ≡ b → is_closer t ≡ c → cond b (is_run_from test (suc (suc d)) run) (cond c (is_run_from test d run) (is_run_from test (suc d) run)) ≡ true → Next test (suc d) t run
    by true c q r h = opens q (open_not_closed t q) h
    by false true q r h = closes d refl q r h
    by false false q r h = passes q r h

same_below : (d below : ℕ) → suc d ≡ suc below → below ≡ d
same_below d below e = omega arith

-- each run is closed
pub nests_of : (test : Terminal → Bool) (d : ℕ) (run : List Terminal) → is_run_from test d run ≡ true → is_run_from nowhere d run ≡ true
nests_of test zero [] h = h
nests_of test (suc d) [] h = h
nests_of test zero (t ∷ run) h = by (step test 0 t run h).next (λ x f. nests_of test x run f)
  where
    by : Next test 0 t run → ((x : ℕ) → is_run_from test x run ≡ true → is_run_from nowhere x run ≡ true) → is_run_from nowhere 0 (t ∷ run) ≡ true
    by (opens p q f) each = (λ i. cond (p i) (is_run_from nowhere 1 run) (cond (is_closer t) false (is_run_from nowhere 0 run))) ∙ each 1 f
    by (closes below e p q f) each = absurd (omega arith)
    by (passes p q f) each = (λ i. cond (p i) (is_run_from nowhere 1 run) (cond (q i) false (is_run_from nowhere 0 run))) ∙ each 0 f
nests_of test (suc d) (t ∷ run) h = by (step test (suc d) t run h).next (λ x f. nests_of test x run f)
  where
    by : Next test (suc d) t run → ((x : ℕ) → is_run_from test x run ≡ true → is_run_from nowhere x run ≡ true) → is_run_from nowhere (suc d) (t ∷ run) ≡ true
    by (opens p q f) each = (λ i. cond (p i) (is_run_from nowhere (suc (suc d)) run) (cond (is_closer t) (is_run_from nowhere d run) (is_run_from nowhere (suc d) run))) ∙ each (suc (suc d)) f
    by (closes below e p q f) each =
        let same = same_below d below e in
        (λ i. cond (p i) (is_run_from nowhere (suc (suc d)) run) (cond (q i) (is_run_from nowhere d run) (is_run_from nowhere (suc d) run))) ∙ ap (λ (x : ℕ). is_run_from nowhere x run) (sym same) ∙ each below f
    by (passes p q f) each = (λ i. cond (p i) (is_run_from nowhere (suc (suc d)) run) (cond (q i) (is_run_from nowhere d run) (is_run_from nowhere (suc d) run))) ∙ each (suc d) f

-- ---- its counts

-- d brackets deep, what the counts say
record Counts (test : Terminal → Bool) (d : ℕ) (run : List Terminal) : Type 0 where
  level : d + opened run ≡ closed run
  never : (n : ℕ) → closed (take n run) ≤ d + opened (take n run)
  quiet : (n : ℕ) → (d + opened (take n run) == closed (take n run) && test (slice_index_or run n nothing)) ≡ false

pub not_both : (b : Bool) → (b && false) ≡ false
not_both true = refl
not_both false = refl

counts_none : (test : Terminal → Bool) → test nothing ≡ false → (d : ℕ) → d ≡ 0 → Counts test d []
counts_none test none d h = record {
  level = omega (arith, h);
  never = λ n. by n;
  quiet = λ n. quiet n;
}
  where
    by : (n : ℕ) → closed (take n []) ≤ d + opened (take n [])
    by zero = omega arith
    by (suc n) = omega arith

    quiet : (n : ℕ) → (d + opened (take n []) == closed (take n []) && test (slice_index_or [] n nothing)) ≡ false
    quiet zero = ap (λ (b : Bool). d + 0 == 0 && b) none ∙ not_both (d + 0 == 0)
    quiet (suc n) = ap (λ (b : Bool). d + 0 == 0 && b) none ∙ not_both (d + 0 == 0)

-- the depth after t is the other one
record Moves (t : Terminal) (d depth : ℕ) : Type 0 where
  opener : Bool
  closer : Bool
  opener_is : is_opener t ≡ opener
  closer_is : is_closer t ≡ closer
  moves : d + cond opener 1 0 ≡ depth + cond closer 1 0

counts_more : (test : Terminal → Bool) (d depth : ℕ) (t : Terminal) (run : List Terminal) → (d ≡ 0 → test t ≡ false) → Moves t d depth → Counts test depth run → Counts test d (t ∷ run)
counts_more test d depth t run calm m c = record { level = level; never = never; quiet = quiet }
  where
    -- a count with t, and without it
    with_opener : (e : List Terminal) → opened (t ∷ e) ≡ cond m.opener 1 0 + opened e
    with_opener e = opened_is t e m.opener m.opener_is ∙ by m.opener (opened e)
      where
        by : (b : Bool) (n : ℕ) → cond b (suc n) n ≡ cond b 1 0 + n
        by true n = omega arith
        by false n = omega arith

    with_closer : (e : List Terminal) → closed (t ∷ e) ≡ cond m.closer 1 0 + closed e
    with_closer e = closed_is t e m.closer m.closer_is ∙ by m.closer (closed e)
      where
        by : (b : Bool) (n : ℕ) → cond b (suc n) n ≡ cond b 1 0 + n
        by true n = omega arith
        by false n = omega arith

    level : d + opened (t ∷ run) ≡ closed (t ∷ run)
    level = omega (arith, with_opener run, with_closer run, m.moves, c.level)

    never : (n : ℕ) → closed (take n (t ∷ run)) ≤ d + opened (take n (t ∷ run))
    never zero = omega arith
    never (suc n) = omega (arith, with_opener (take n run), with_closer (take n run), m.moves, c.never n)

    first : (d : ℕ) → (d ≡ 0 → test t ≡ false) → (d + 0 == 0 && test t) ≡ false
    first zero calm = calm refl
    first (suc d) calm = ap (λ (b : Bool). b && test t) (deep d)
      where
        deep : (d : ℕ) → (suc d + 0 == 0) ≡ false
        deep d = grind (arith, nat_tests)

    same : (n : ℕ) → (d + opened (t ∷ take n run) == closed (t ∷ take n run)) ≡ (depth + opened (take n run) == closed (take n run))
    same n = let p = with_opener (take n run) in let q = with_closer (take n run) in let r = m.moves in
        by (opened (t ∷ take n run)) (opened (take n run)) (closed (t ∷ take n run)) (closed (take n run)) (cond m.opener 1 0) (cond m.closer 1 0) p q r
      where
        by : (o o' k k' a b : ℕ) → o ≡ a + o' → k ≡ b + k' → d + a ≡ depth + b → (d + o == k) ≡ (depth + o' == k')
        by o o' k k' a b p q r = grind (arith, nat_tests)

    quiet : (n : ℕ) → (d + opened (take n (t ∷ run)) == closed (take n (t ∷ run)) && test (slice_index_or (t ∷ run) n nothing)) ≡ false
    quiet zero = first d calm
    quiet (suc n) = ap (λ (b : Bool). b && test (slice_index_or run n nothing)) (same n) ∙ c.quiet n

counts : (test : Terminal → Bool) → test nothing ≡ false → (d : ℕ) (run : List Terminal) → is_run_from test d run ≡ true → Counts test d run
counts test none d [] h = counts_none test none d (end_zero d h)
counts test none d (t ∷ run) h = let s = step test d t run h in by s.next s.quiet (λ x f. counts test none x run f)
  where
    by : Next test d t run → (d ≡ 0 → test t ≡ false) → ((x : ℕ) → is_run_from test x run ≡ true → Counts test x run) → Counts test d (t ∷ run)
    by (opens p q f) calm each = counts_more test d (suc d) t run calm (record { opener = true; closer = false; opener_is = p; closer_is = q; moves = omega arith }) (each (suc d) f)
    by (closes below e p q f) calm each = counts_more test d below t run calm (record { opener = false; closer = true; opener_is = p; closer_is = q; moves = omega (arith, e) }) (each below f)
    by (passes p q f) calm each = counts_more test d d t run calm (record { opener = false; closer = false; opener_is = p; closer_is = q; moves = omega arith }) (each d f)

pub closed_is_level : ClosedIsLevel
closed_is_level run h = let c = counts nowhere refl 0 run h in record {
  level = (let l = c.level in omega arith);
  never = λ n. let l = c.never n in omega arith;
}

no_more : (n : ℕ) → n ≡ 0 + n
no_more n = omega arith

pub neutral_ends_none : NeutralEndsNone
unfolding is_semicolon
neutral_ends_none run h n = ap (λ (x : ℕ). x == closed (take n run) && is_semicolon (slice_index_or run n nothing)) (no_more (opened (take n run))) ∙ (counts is_semicolon refl 0 run h).quiet n

pub uncut_has_none : UncutHasNone
uncut_has_none run h n = ap (λ (x : ℕ). x == closed (take n run) && is_comma (slice_index_or run n nothing)) (no_more (opened (take n run))) ∙ (counts is_comma refl 0 run h).quiet n

-- ---- a run of such counts is closed

level_nests : (d : ℕ) (run : List Terminal) → d + opened run ≡ closed run → ((n : ℕ) → closed (take n run) ≤ d + opened (take n run)) → is_run_from nowhere d run ≡ true
level_nests d [] l never = by d (omega arith)
  where
    by : (d : ℕ) → d ≡ 0 → (d == 0) ≡ true
    by d h = grind (arith, nat_tests)
level_nests zero (t ∷ run) l never = by (is_opener t) (is_closer t) refl refl (λ x p q. level_nests x run p q)
  where
    by : (b c : Bool) → is_opener t ≡ b → is_closer t ≡ c →
        ((x : ℕ) → x + opened run ≡ closed run → ((n : ℕ) → closed (take n run) ≤ x + opened (take n run)) → is_run_from nowhere x run ≡ true) → is_run_from nowhere 0 (t ∷ run) ≡ true
    by true c p q each =
        let none = open_not_closed t p in
        (λ i. cond (p i) (is_run_from nowhere 1 run) (cond (is_closer t) false (is_run_from nowhere 0 run)))
        ∙ each 1 (omega (arith, opened_is t run true p, closed_is t run false none)) (λ n. omega (arith, never (suc n), opened_is t (take n run) true p, closed_is t (take n run) false none))
    by false true p q each = absurd (omega (arith, never 1, opened_is t [] false p, closed_is t [] true q))
    by false false p q each =
        (λ i. cond (p i) (is_run_from nowhere 1 run) (cond (q i) false (is_run_from nowhere 0 run)))
        ∙ each 0 (omega (arith, opened_is t run false p, closed_is t run false q)) (λ n. omega (arith, never (suc n), opened_is t (take n run) false p, closed_is t (take n run) false q))
level_nests (suc d) (t ∷ run) l never = by (is_opener t) (is_closer t) refl refl (λ x p q. level_nests x run p q)
  where
    by : (b c : Bool) → is_opener t ≡ b → is_closer t ≡ c →
        ((x : ℕ) → x + opened run ≡ closed run → ((n : ℕ) → closed (take n run) ≤ x + opened (take n run)) → is_run_from nowhere x run ≡ true) → is_run_from nowhere (suc d) (t ∷ run) ≡ true
    by true c p q each =
        let none = open_not_closed t p in
        (λ i. cond (p i) (is_run_from nowhere (suc (suc d)) run) (cond (is_closer t) (is_run_from nowhere d run) (is_run_from nowhere (suc d) run)))
        ∙ each (suc (suc d)) (omega (arith, opened_is t run true p, closed_is t run false none)) (λ n. omega (arith, never (suc n), opened_is t (take n run) true p, closed_is t (take n run) false none))
    by false true p q each =
        (λ i. cond (p i) (is_run_from nowhere (suc (suc d)) run) (cond (q i) (is_run_from nowhere d run) (is_run_from nowhere (suc d) run)))
        ∙ each d (omega (arith, opened_is t run false p, closed_is t run true q)) (λ n. omega (arith, never (suc n), opened_is t (take n run) false p, closed_is t (take n run) true q))
    by false false p q each =
        (λ i. cond (p i) (is_run_from nowhere (suc (suc d)) run) (cond (q i) (is_run_from nowhere d run) (is_run_from nowhere (suc d) run)))
        ∙ each (suc d) (omega (arith, opened_is t run false p, closed_is t run false q)) (λ n. omega (arith, never (suc n), opened_is t (take n run) false p, closed_is t (take n run) false q))

pub level_is_closed : LevelIsClosed
level_is_closed run l = level_nests 0 run (omega (arith, l.level)) (λ n. omega (arith, l.never n))
