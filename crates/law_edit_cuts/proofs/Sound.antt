-- Soundness where a run is exchanged.
use Rattle.std.proofs.Common.{◌≡◌, ◌<◌, ◌≤◌, ℕ, zero, suc, ◌+◌, ◌-◌, Bool, true, false, cond, List, [], ◌∷◌, ◌++◌, sym, refl, ap, ◌∙◌, subst, arith, Option, Some, None}
use Rattle.std.proofs.lemmas.Bool.{and_parts, false≢true}
use Rattle.std.proofs.lemmas.Bool.Decides.{nat_tests}
use Rattle.std.specs.Prelude.{◌==◌, ◌&&◌, not, if◌then◌else◌, nat_lt, nat_le}
use Rattle.std.specs.List.{list_all}
use Rattle.law_renumber.specs.sql_keyword.declared.words.TheConstants.Keyword as keyword
use Rattle.law_renumber.specs.sql_token.declared.terminal.Terminal.{Terminal}
use Rattle.law_renumber.specs.sql_token.Terminal.{is_opener, is_closer, is_unicode_name, is_keyword}
use Rattle.law_renumber.specs.sql_token.Sound.{opened, closed, partner, matches, begins_atomic, may_stand, sound_from, is_sound}
use Rattle.law_edit_cuts.specs.Runs.{is_run_from, nowhere, greater, deepest, begins_no_body}
use Rattle.law_edit_cuts.specs.Exchanges.{SoundIsClosed, PrefixIsLevel, SoundnessStays}
use Rattle.law_edit_cuts.proofs.Nested.{Next, step, end_zero, open_not_closed, opened_is, closed_is, not_both}
use Rattle.law_edit_cuts.proofs.Nested.Next.{opens, closes, passes}

-- ---- more came before

-- What came before is counted alike, but for k brackets more that are closed, and d more that are open.
record Over (k d : ℕ) (e f : List Terminal) : Type 0 where
  pub opens : opened e ≡ opened f + k + d
  pub closes : closed e ≡ closed f + k
  pub partners : (n : ℕ) → partner (n + d) e ≡ partner n f

over_none : (e : List Terminal) → Over 0 0 e e
over_none e = record {
  opens = omega arith;
  closes = omega arith;
  partners = λ n. let zero : n + 0 ≡ n = omega arith in ap (λ (x : ℕ). partner x e) zero;
}

partner_open : (t : Terminal) (e : List Terminal) (n : ℕ) → is_opener t ≡ true → partner (suc n) (t ∷ e) ≡ partner n e
partner_open t e n h = λ i. cond (h i) (partner n e) (cond (is_closer t) (partner (suc (suc n)) e) (partner (suc n) e))

partner_close : (t : Terminal) (e : List Terminal) (n : ℕ) → is_opener t ≡ false → is_closer t ≡ true → partner n (t ∷ e) ≡ partner (suc n) e
partner_close t e zero h c = λ i. cond (h i) (Some t) (cond (c i) (partner 1 e) (partner zero e))
partner_close t e (suc n) h c = λ i. cond (h i) (partner n e) (cond (c i) (partner (suc (suc n)) e) (partner (suc n) e))

partner_pass : (t : Terminal) (e : List Terminal) (n : ℕ) → is_opener t ≡ false → is_closer t ≡ false → partner n (t ∷ e) ≡ partner n e
partner_pass t e zero h c = λ i. cond (h i) (Some t) (cond (c i) (partner 1 e) (partner zero e))
partner_pass t e (suc n) h c = λ i. cond (h i) (partner n e) (cond (c i) (partner (suc (suc n)) e) (partner (suc n) e))

over_open : (k d : ℕ) (t : Terminal) (e f : List Terminal) → is_opener t ≡ true → is_closer t ≡ false → Over k d e f → Over k (suc d) (t ∷ e) f
over_open k d t e f h c o = record {
  opens = opened_is t e true h ∙ (let p = o.opens in omega arith);
  closes = closed_is t e false c ∙ o.closes;
  partners = λ n. let place : n + suc d ≡ suc (n + d) = omega arith in ap (λ (x : ℕ). partner x (t ∷ e)) place ∙ partner_open t e (n + d) h ∙ o.partners n;
}

over_close : (k d : ℕ) (t : Terminal) (e f : List Terminal) → is_opener t ≡ false → is_closer t ≡ true → Over k (suc d) e f → Over (suc k) d (t ∷ e) f
over_close k d t e f h c o = record {
  opens = opened_is t e false h ∙ o.opens ∙ (let place : opened f + k + suc d ≡ opened f + suc k + d = omega arith in place);
  closes = closed_is t e true c ∙ (let p = o.closes in omega arith);
  partners = λ n. let place : suc (n + d) ≡ n + suc d = omega arith in partner_close t e (n + d) h c ∙ ap (λ (x : ℕ). partner x e) place ∙ o.partners n;
}

over_pass : (k d : ℕ) (t : Terminal) (e f : List Terminal) → is_opener t ≡ false → is_closer t ≡ false → Over k d e f → Over k d (t ∷ e) f
over_pass k d t e f h c o = record {
  opens = opened_is t e false h ∙ o.opens;
  closes = closed_is t e false c ∙ o.closes;
  partners = λ n. partner_pass t e (n + d) h c ∙ o.partners n;
}

-- ---- only the difference of the counts matters

stand_by : (unicode opener closer : Bool) (deep level : Bool) (atomic : Bool) (found : Option Terminal) (t : Terminal) → Bool
stand_by unicode opener closer deep level atomic found t =
    if unicode then false
    else (if opener then deep
    else (if closer then matches found t
    else not (level && atomic)))

deep_same : (o c k : ℕ) → nat_lt (o + k) (c + k + 128) ≡ nat_lt o (c + 128)
deep_same o c k = grind (arith, nat_tests)

level_same : (o c k : ℕ) → (o + k == c + k) ≡ (o == c)
level_same o c k = grind (arith, nat_tests)

over_opens : (k : ℕ) (e f : List Terminal) → Over k 0 e f → opened e ≡ opened f + k
over_opens k e f o = o.opens ∙ (let zero : opened f + k + 0 ≡ opened f + k = omega arith in zero)

over_partner : (k n : ℕ) (e f : List Terminal) → Over k 0 e f → partner n e ≡ partner n f
over_partner k n e f o = let zero : n ≡ n + 0 = omega arith in ap (λ (x : ℕ). partner x e) zero ∙ o.partners n

stand_over : (k : ℕ) (e f : List Terminal) (t : Terminal) (ts : List Terminal) → Over k 0 e f → may_stand e t ts ≡ may_stand f t ts
unfolding stand_by
stand_over k e f t ts o =
    let p = over_opens k e f o in let q = o.closes in let r = over_partner k 0 e f o in
    let deep : nat_lt (opened e) (closed e + 128) ≡ nat_lt (opened f) (closed f + 128) = (λ i. nat_lt (p i) (q i + 128)) ∙ deep_same (opened f) (closed f) k in
    let level : (opened e == closed e) ≡ (opened f == closed f) = (λ i. p i == q i) ∙ level_same (opened f) (closed f) k in
    λ i. stand_by (is_unicode_name t) (is_opener t) (is_closer t) (deep i) (level i) (begins_atomic t ts) (r i) t

over_more : (k : ℕ) (t : Terminal) (e f : List Terminal) → Over k 0 e f → Over k 0 (t ∷ e) (t ∷ f)
over_more k t e f o =
    let p = over_opens k e f o in let q = o.closes in
    record {
      opens = (λ i. cond (is_opener t) (suc (p i)) (p i)) ∙ by (is_opener t) (opened f);
      closes = (λ i. cond (is_closer t) (suc (q i)) (q i)) ∙ by' (is_closer t) (closed f);
      partners = λ n. let zero : n + 0 ≡ n = omega arith in ap (λ (x : ℕ). partner x (t ∷ e)) zero ∙ partners n;
    }
  where
    by : (b : Bool) (n : ℕ) → cond b (suc (n + k)) (n + k) ≡ cond b (suc n) n + k + 0
    by true n = omega arith
    by false n = omega arith

    by' : (b : Bool) (n : ℕ) → cond b (suc (n + k)) (n + k) ≡ cond b (suc n) n + k
    by' true n = omega arith
    by' false n = omega arith

    partners : (n : ℕ) → partner n (t ∷ e) ≡ partner n (t ∷ f)
    partners zero = let r = over_partner k zero e f o in let s = over_partner k 1 e f o in λ i. cond (is_opener t) (Some t) (cond (is_closer t) (s i) (r i))
    partners (suc n) = let r = over_partner k n e f o in let s = over_partner k (suc (suc n)) e f o in let u = over_partner k (suc n) e f o in λ i. cond (is_opener t) (r i) (cond (is_closer t) (s i) (u i))

sound_over : (k : ℕ) (e f ts : List Terminal) → Over k 0 e f → sound_from e ts ≡ sound_from f ts
sound_over k e f [] o = (let p = over_opens k e f o in let q = o.closes in λ i. p i == q i) ∙ level_same (opened f) (closed f) k
sound_over k e f (t ∷ ts) o =
    let here = stand_over k e f t ts o in let rest = sound_over k (t ∷ e) (t ∷ f) ts (over_more k t e f o) in
    λ i. cond (here i) (rest i) false

-- ---- after the old run

before_true : (b c : Bool) → cond b c false ≡ true → (b ≡ true) × (c ≡ true)
before_true true c h = (refl, h)
before_true false c h = absurd (false≢true h)

both_true : (b c : Bool) → b ≡ true → c ≡ true → cond b c false ≡ true
both_true b c p q = λ i. cond (p i) (q i) false

-- after f, n brackets more may be open
abbrev Fits : List Terminal → ℕ → Type 0
Fits f n = (m : ℕ) → m < n → opened f + m < closed f + 128

fits_greater : (f : List Terminal) (n m : ℕ) → Fits f n → Fits f m → Fits f (greater n m)
fits_greater f n m p q = by (nat_le n m)
  where
    by : (b : Bool) → Fits f (cond b m n)
    by true = q
    by false = p

room : (e : List Terminal) (t : Terminal) (ts : List Terminal) → is_opener t ≡ true → may_stand e t ts ≡ true → opened e < closed e + 128
unfolding stand_by
room e t ts p h = less (by (is_unicode_name t) ((λ i. stand_by (is_unicode_name t) (sym p i) (is_closer t) (nat_lt (opened e) (closed e + 128)) (opened e == closed e) (begins_atomic t ts) (partner 0 e) t) ∙ h))
  where
    by : (b : Bool) → cond b false (nat_lt (opened e) (closed e + 128)) ≡ true → nat_lt (opened e) (closed e + 128) ≡ true
    by true h = absurd (false≢true h)
    by false h = h

    less : nat_lt (opened e) (closed e + 128) ≡ true → opened e < closed e + 128
    less h = grind (arith, nat_tests)

-- From some list, of which no more than f counts, the rest is sound; and the run fits after f.
record After (d : ℕ) (run f tail : List Terminal) : Type 0 where
  pub earlier : List Terminal
  pub count : ℕ
  pub over : Over count 0 earlier f
  pub sound : sound_from earlier tail ≡ true
  pub fits : Fits f (deepest d run)

none_fits : (f : List Terminal) → Fits f 0
none_fits f m h = absurd (omega arith)

-- how deep a run is that begins with t
deepest_open : (d : ℕ) (t : Terminal) (run : List Terminal) → is_opener t ≡ true → deepest d (t ∷ run) ≡ greater (suc d) (deepest (suc d) run)
deepest_open d t run p = λ i. cond (p i) (greater (suc d) (deepest (suc d) run)) (cond (is_closer t) (deepest (d - 1) run) (deepest d run))

deepest_close : (d : ℕ) (t : Terminal) (run : List Terminal) → is_opener t ≡ false → is_closer t ≡ true → deepest d (t ∷ run) ≡ deepest (d - 1) run
deepest_close d t run p q = λ i. cond (p i) (greater (suc d) (deepest (suc d) run)) (cond (q i) (deepest (d - 1) run) (deepest d run))

deepest_pass : (d : ℕ) (t : Terminal) (run : List Terminal) → is_opener t ≡ false → is_closer t ≡ false → deepest d (t ∷ run) ≡ deepest d run
deepest_pass d t run p q = λ i. cond (p i) (greater (suc d) (deepest (suc d) run)) (cond (q i) (deepest (d - 1) run) (deepest d run))

after_run : (k d : ℕ) (run tail e f : List Terminal) → is_run_from nowhere d run ≡ true → Over k d e f → sound_from e (run ++ tail) ≡ true → After d run f tail
after_run k d [] tail e f h o s = record { earlier = e; count = k; over = subst (λ (x : ℕ). Over k x e f) (end_zero d h) o; sound = s; fits = none_fits f }
after_run k d (t ∷ run) tail e f h o s =
    let both = before_true (may_stand e t (run ++ tail)) (sound_from (t ∷ e) (run ++ tail)) s in
    by (step nowhere d t run h).next both.0 (λ k' d' h' o'. after_run k' d' run tail (t ∷ e) f h' o' both.1)
  where
    by : Next nowhere d t run → may_stand e t (run ++ tail) ≡ true → ((k' d' : ℕ) → is_run_from nowhere d' run ≡ true → Over k' d' (t ∷ e) f → After d' run f tail) → After d (t ∷ run) f tail
    by (opens p q h) may each =
        let a = each k (suc d) h (over_open k d t e f p q o) in
        let here : Fits f (suc d) = (let less = room e t (run ++ tail) p may in let x = o.opens in let y = o.closes in λ m l. omega (arith, less, x, y, l)) in
        record { earlier = a.earlier; count = a.count; over = a.over; sound = a.sound; fits = subst (λ (x : ℕ). Fits f x) (sym (deepest_open d t run p)) (fits_greater f (suc d) (deepest (suc d) run) here a.fits) }
    by (closes below same p q h) may each =
        let a = each (suc k) below h (over_close k below t e f p q (subst (λ (x : ℕ). Over k x e f) same o)) in
        let place : deepest d (t ∷ run) ≡ deepest below run = deepest_close d t run p q ∙ ap (λ (x : ℕ). deepest x run) (omega (arith, same)) in
        record { earlier = a.earlier; count = a.count; over = a.over; sound = a.sound; fits = subst (λ (x : ℕ). Fits f x) (sym place) a.fits }
    by (passes p q h) may each =
        let a = each k d h (over_pass k d t e f p q o) in
        record { earlier = a.earlier; count = a.count; over = a.over; sound = a.sound; fits = subst (λ (x : ℕ). Fits f x) (sym (deepest_pass d t run p q)) a.fits }

-- ---- the new run

-- After the terminals n alone, and after them in a statement (x), k brackets are closed and d are open.
record Inside (k d : ℕ) (n x f : List Terminal) : Type 0 where
  pub opens : opened n ≡ k + d
  pub closes : closed n ≡ k
  pub over : Over k d x f
  pub found : (m : ℕ) (o : Terminal) → partner m n ≡ Some o → partner m x ≡ Some o

no_some : (o : Terminal) → None ≡ Some o → ⊥
no_some o e = cc

inside_none : (f : List Terminal) → Inside 0 0 [] f f
inside_none f = record { opens = refl; closes = refl; over = over_none f; found = λ m o e. absurd (no_some o (by m ∙ e)) }
  where
    by : (m : ℕ) → None ≡ partner m []
    by zero = refl
    by (suc m) = refl

found_more : (t : Terminal) (n x : List Terminal) → ((m : ℕ) (o : Terminal) → partner m n ≡ Some o → partner m x ≡ Some o) → (m : ℕ) (o : Terminal) → partner m (t ∷ n) ≡ Some o → partner m (t ∷ x) ≡ Some o
found_more t n x each zero o e = by (is_opener t) (is_closer t) e
  where
    by : (a b : Bool) → cond a (Some t) (cond b (partner 1 n) (partner 0 n)) ≡ Some o → cond a (Some t) (cond b (partner 1 x) (partner 0 x)) ≡ Some o
    by true b e = e
    by false true e = each 1 o e
    by false false e = each 0 o e
found_more t n x each (suc m) o e = by (is_opener t) (is_closer t) e
  where
    by : (a b : Bool) → cond a (partner m n) (cond b (partner (suc (suc m)) n) (partner (suc m) n)) ≡ Some o → cond a (partner m x) (cond b (partner (suc (suc m)) x) (partner (suc m) x)) ≡ Some o
    by true b e = each m o e
    by false true e = each (suc (suc m)) o e
    by false false e = each (suc m) o e

matches_found : (n x : List Terminal) (t : Terminal) → ((o : Terminal) → partner 0 n ≡ Some o → partner 0 x ≡ Some o) → matches (partner 0 n) t ≡ true → matches (partner 0 x) t ≡ true
matches_found n x t each h = by (partner 0 n) refl h
  where
    by : (o : Option Terminal) → partner 0 n ≡ o → matches o t ≡ true → matches (partner 0 x) t ≡ true
    by None p h = absurd (false≢true h)
    by (Some o) p h = ap (λ (y : Option Terminal). matches y t) (each o p) ∙ h

-- no word BEGIN, and no word ATOMIC
record NoBody (t : Terminal) : Type 0 where
  pub begin : is_keyword keyword.BEGIN t ≡ false
  pub atomic : is_keyword keyword.ATOMIC t ≡ false

no_body : (t : Terminal) → begins_no_body t ≡ true → NoBody t
no_body t h = by (is_keyword keyword.BEGIN t) (is_keyword keyword.ATOMIC t) refl refl h
  where
    by : (a b : Bool) → is_keyword keyword.BEGIN t ≡ a → is_keyword keyword.ATOMIC t ≡ b → (not a && not b) ≡ true → NoBody t
    by false false p q h = record { begin = p; atomic = q }
    by true b p q h = cc
    by false true p q h = cc

no_begin : (t : Terminal) (ts : List Terminal) → is_keyword keyword.BEGIN t ≡ false → begins_atomic t ts ≡ false
unfolding begins_atomic
no_begin t [] h = refl
no_begin t (u ∷ ts) h = ap (λ (b : Bool). b && is_keyword keyword.ATOMIC u) h

no_atomic : (t u : Terminal) (ts : List Terminal) → is_keyword keyword.ATOMIC u ≡ false → begins_atomic t (u ∷ ts) ≡ false
unfolding begins_atomic
no_atomic t u ts h = ap (λ (b : Bool). is_keyword keyword.BEGIN t && b) h ∙ not_both (is_keyword keyword.BEGIN t)

-- a terminal that may be where it is in the run may be there in a statement
stand_in : (k d : ℕ) (n x f : List Terminal) (t : Terminal) (ts us : List Terminal) → Inside k d n x f → (is_opener t ≡ true → opened x < closed x + 128) → begins_atomic t us ≡ false → may_stand n t ts ≡ true → may_stand x t us ≡ true
unfolding stand_by
stand_in k d n x f t ts us i deep none h =
    by (is_unicode_name t) (is_opener t) (is_closer t) refl (begins_atomic t ts) (nat_lt (opened n) (closed n + 128)) (opened n == closed n) h
  where
    less : opened x < closed x + 128 → nat_lt (opened x) (closed x + 128) ≡ true
    less h = grind (arith, nat_tests)

    quiet : (level b : Bool) → b ≡ false → not (level && b) ≡ true
    quiet true b h = ap not h
    quiet false b h = refl

    by : (unicode opener closer : Bool) → is_opener t ≡ opener → (atomic deep level : Bool) → stand_by unicode opener closer deep level atomic (partner 0 n) t ≡ true →
        stand_by unicode opener closer (nat_lt (opened x) (closed x + 128)) (opened x == closed x) (begins_atomic t us) (partner 0 x) t ≡ true
    by true opener closer p atomic deep' level h = absurd (false≢true h)
    by false true closer p atomic deep' level h = less (deep p)
    by false false true p atomic deep' level h = matches_found n x t (λ o e. i.found 0 o e) h
    by false false false p atomic deep' level h = quiet (opened x == closed x) (begins_atomic t us) none

-- The rest of the new run, after n of it.
new_sound : (k d : ℕ) (new tail n x f : List Terminal) → Inside k d n x f → is_run_from nowhere d new ≡ true → sound_from n new ≡ true → list_all begins_no_body new ≡ true → Fits f (deepest d new) → sound_from f tail ≡ true →
    sound_from x (new ++ tail) ≡ true
new_sound k d [] tail n x f i h s calm fits rest = sound_over k x f tail (subst (λ (y : ℕ). Over k y x f) (end_zero d h) i.over) ∙ rest
new_sound k d (t ∷ new) tail n x f i h s calm fits rest =
    let both = before_true (may_stand n t new) (sound_from (t ∷ n) new) s in
    let words = and_parts (begins_no_body t) (list_all begins_no_body new) calm in
    by (step nowhere d t new h).next (no_begin t (new ++ tail) (no_body t words.0).begin) both.0 (λ k' d' h' i' fits'. new_sound k' d' new tail (t ∷ n) (t ∷ x) f i' h' both.1 words.1 fits' rest)
  where
    found : (m : ℕ) (o : Terminal) → partner m (t ∷ n) ≡ Some o → partner m (t ∷ x) ≡ Some o
    found m o e = found_more t n x i.found m o e

    by : Next nowhere d t new → begins_atomic t (new ++ tail) ≡ false → may_stand n t new ≡ true →
        ((k' d' : ℕ) → is_run_from nowhere d' new ≡ true → Inside k' d' (t ∷ n) (t ∷ x) f → Fits f (deepest d' new) → sound_from (t ∷ x) (new ++ tail) ≡ true) → sound_from x (t ∷ (new ++ tail)) ≡ true
    by (opens p q h) none may each =
        let fits' : Fits f (greater (suc d) (deepest (suc d) new)) = subst (λ (y : ℕ). Fits f y) (deepest_open d t new p) fits in
        let a = i.over.opens in let b = i.over.closes in
        let deep : opened x < closed x + 128 = (let l = fits' d (greater_first (suc d) (deepest (suc d) new) (omega arith)) in omega (arith, a, b, l)) in
        both_true (may_stand x t (new ++ tail)) (sound_from (t ∷ x) (new ++ tail)) (stand_in k d n x f t new (new ++ tail) i (λ e. deep) none may)
        (each k (suc d) h (record { opens = opened_is t n true p ∙ (let l = i.opens in omega arith); closes = closed_is t n false q ∙ i.closes; over = over_open k d t x f p q i.over; found = found })
        (λ m l. fits' m (greater_second (suc d) (deepest (suc d) new) m l)))
      where
        greater_first : (n m : ℕ) → d < n → d < greater n m
        greater_first n m l = grind (arith, nat_tests)

        greater_second : (n m y : ℕ) → y < m → y < greater n m
        greater_second n m y l = grind (arith, nat_tests)
    by (closes below same p q h) none may each =
        both_true (may_stand x t (new ++ tail)) (sound_from (t ∷ x) (new ++ tail)) (stand_in k d n x f t new (new ++ tail) i (λ e. absurd (false≢true (sym p ∙ e))) none may)
        (each (suc k) below h (record { opens = opened_is t n false p ∙ (let l = i.opens in omega arith); closes = closed_is t n true q ∙ ap suc i.closes; over = over_close k below t x f p q (subst (λ (y : ℕ). Over k y x f) same i.over); found = found })
        (subst (λ (y : ℕ). Fits f y) (deepest_close d t new p q ∙ ap (λ (y : ℕ). deepest y new) (let l : d - 1 ≡ below = omega (arith, same) in l)) fits))
    by (passes p q h) none may each =
        both_true (may_stand x t (new ++ tail)) (sound_from (t ∷ x) (new ++ tail)) (stand_in k d n x f t new (new ++ tail) i (λ e. absurd (false≢true (sym p ∙ e))) none may)
        (each k d h (record { opens = opened_is t n false p ∙ i.opens; closes = closed_is t n false q ∙ i.closes; over = over_pass k d t x f p q i.over; found = found })
        (subst (λ (y : ℕ). Fits f y) (deepest_pass d t new p q) fits))

-- ---- a sound run is closed

-- After n, d brackets are open.
record Level (d : ℕ) (n : List Terminal) : Type 0 where
  pub counts : opened n ≡ closed n + d
  pub partners : (m : ℕ) (o : Terminal) → partner m n ≡ Some o → m < d

level_none : Level 0 []
level_none = record { counts = refl; partners = λ m o e. absurd (no_some o (by m ∙ e)) }
  where
    by : (m : ℕ) → None ≡ partner m []
    by zero = refl
    by (suc m) = refl

level_open : (d : ℕ) (t : Terminal) (n : List Terminal) → is_opener t ≡ true → is_closer t ≡ false → Level d n → Level (suc d) (t ∷ n)
level_open d t n p q l = record { counts = opened_is t n true p ∙ (let c = l.counts in let k = closed_is t n false q in omega (arith, c, k)); partners = partners }
  where
    partners : (m : ℕ) (o : Terminal) → partner m (t ∷ n) ≡ Some o → m < suc d
    partners zero o e = omega arith
    partners (suc m) o e = let less = l.partners m o (sym (partner_open t n m p) ∙ e) in omega (arith, less)

level_close : (d : ℕ) (t : Terminal) (n : List Terminal) → is_opener t ≡ false → is_closer t ≡ true → Level (suc d) n → Level d (t ∷ n)
level_close d t n p q l = record {
  counts = opened_is t n false p ∙ (let c = l.counts in let k = closed_is t n true q in omega (arith, c, k));
  partners = λ m o e. let less = l.partners (suc m) o (sym (partner_close t n m p q) ∙ e) in omega (arith, less);
}

level_pass : (d : ℕ) (t : Terminal) (n : List Terminal) → is_opener t ≡ false → is_closer t ≡ false → Level d n → Level d (t ∷ n)
level_pass d t n p q l = record {
  counts = opened_is t n false p ∙ (let c = l.counts in let k = closed_is t n false q in omega (arith, c, k));
  partners = λ m o e. l.partners m o (sym (partner_pass t n m p q) ∙ e);
}

-- a closer that may be there closes a bracket
closes_one : (d : ℕ) (n : List Terminal) (t : Terminal) (ts : List Terminal) → is_opener t ≡ false → is_closer t ≡ true → Level d n → may_stand n t ts ≡ true → 0 < d
unfolding stand_by
closes_one d n t ts p q l h =
    found (partner 0 n) refl (by (is_unicode_name t) ((λ i. stand_by (is_unicode_name t) (sym p i) (sym q i) (nat_lt (opened n) (closed n + 128)) (opened n == closed n) (begins_atomic t ts) (partner 0 n) t) ∙ h))
  where
    by : (b : Bool) → cond b false (matches (partner 0 n) t) ≡ true → matches (partner 0 n) t ≡ true
    by true h = absurd (false≢true h)
    by false h = h

    found : (o : Option Terminal) → partner 0 n ≡ o → matches o t ≡ true → 0 < d
    found None e h = absurd (false≢true h)
    found (Some o) e h = l.partners 0 o e

run_open : (d : ℕ) (t : Terminal) (run : List Terminal) → is_opener t ≡ true → is_run_from nowhere d (t ∷ run) ≡ is_run_from nowhere (suc d) run
run_open zero t run p = λ i. cond (p i) (is_run_from nowhere 1 run) (cond (is_closer t) false (is_run_from nowhere 0 run))
run_open (suc d) t run p = λ i. cond (p i) (is_run_from nowhere (suc (suc d)) run) (cond (is_closer t) (is_run_from nowhere d run) (is_run_from nowhere (suc d) run))

run_close : (d : ℕ) (t : Terminal) (run : List Terminal) → is_opener t ≡ false → is_closer t ≡ true → is_run_from nowhere (suc d) (t ∷ run) ≡ is_run_from nowhere d run
run_close d t run p q = λ i. cond (p i) (is_run_from nowhere (suc (suc d)) run) (cond (q i) (is_run_from nowhere d run) (is_run_from nowhere (suc d) run))

run_pass : (d : ℕ) (t : Terminal) (run : List Terminal) → is_opener t ≡ false → is_closer t ≡ false → is_run_from nowhere d (t ∷ run) ≡ is_run_from nowhere d run
run_pass zero t run p q = λ i. cond (p i) (is_run_from nowhere 1 run) (cond (q i) false (is_run_from nowhere 0 run))
run_pass (suc d) t run p q = λ i. cond (p i) (is_run_from nowhere (suc (suc d)) run) (cond (q i) (is_run_from nowhere d run) (is_run_from nowhere (suc d) run))

sound_nests : (d : ℕ) (n new : List Terminal) → Level d n → sound_from n new ≡ true → is_run_from nowhere d new ≡ true
sound_nests d n [] l s = by (opened n) (closed n) d l.counts s
  where
    by : (o c d : ℕ) → o ≡ c + d → (o == c) ≡ true → (d == 0) ≡ true
    by o c d e h = grind (arith, nat_tests)
sound_nests d n (t ∷ new) l s =
    let both = before_true (may_stand n t new) (sound_from (t ∷ n) new) s in
    by d (is_opener t) (is_closer t) refl refl l both.0 (λ x k. sound_nests x (t ∷ n) new k both.1)
  where
    by : (d : ℕ) (a b : Bool) → is_opener t ≡ a → is_closer t ≡ b → Level d n → may_stand n t new ≡ true → ((x : ℕ) → Level x (t ∷ n) → is_run_from nowhere x new ≡ true) → is_run_from nowhere d (t ∷ new) ≡ true
    by d true b p q l may each = run_open d t new p ∙ each (suc d) (level_open d t n p (open_not_closed t p) l)
    by zero false true p q l may each = absurd (none (closes_one 0 n t new p q l may))
      where
        none : 0 < 0 → ⊥
        none h = omega arith
    by (suc d) false true p q l may each = run_close d t new p q ∙ each d (level_close d t n p q l)
    by d false false p q l may each = run_pass d t new p q ∙ each d (level_pass d t n p q l)

-- At each place no closer is too many.
level_prefix : (d : ℕ) (n front tail : List Terminal) → Level d n → sound_from n (front ++ tail) ≡ true → closed front ≤ d + opened front
level_prefix d n [] tail l s = omega arith
level_prefix d n (t ∷ front) tail l s =
    let both = before_true (may_stand n t (front ++ tail)) (sound_from (t ∷ n) (front ++ tail)) s in
    by d (is_opener t) (is_closer t) refl refl l both.0 (λ x k. level_prefix x (t ∷ n) front tail k both.1)
  where
    by : (d : ℕ) (a b : Bool) → is_opener t ≡ a → is_closer t ≡ b → Level d n → may_stand n t (front ++ tail) ≡ true → ((x : ℕ) → Level x (t ∷ n) → closed front ≤ x + opened front) → closed (t ∷ front) ≤ d + opened (t ∷ front)
    by d true b p q l may each =
        let none = open_not_closed t p in let low = each (suc d) (level_open d t n p none l) in
        omega (arith, low, opened_is t front true p, closed_is t front false none)
    by zero false true p q l may each = absurd (none (closes_one 0 n t (front ++ tail) p q l may))
      where
        none : 0 < 0 → ⊥
        none h = omega arith
    by (suc d) false true p q l may each =
        let low = each d (level_close d t n p q l) in
        omega (arith, low, opened_is t front false p, closed_is t front true q)
    by d false false p q l may each =
        let low = each d (level_pass d t n p q l) in
        omega (arith, low, opened_is t front false p, closed_is t front false q)

pub sound_is_closed : SoundIsClosed
unfolding is_sound
sound_is_closed ts s = sound_nests 0 [] ts level_none s

pub prefix_is_level : PrefixIsLevel
unfolding is_sound
prefix_is_level front tail s = let low = level_prefix 0 [] front tail level_none s in omega (arith, low)

-- ---- the law

stand_kept : (e : List Terminal) (t : Terminal) (ts us : List Terminal) → begins_atomic t us ≡ false → may_stand e t ts ≡ true → may_stand e t us ≡ true
unfolding stand_by
stand_kept e t ts us none h =
    let known = stand_known (is_unicode_name t) (is_opener t) (is_closer t) (opened e == closed e) (begins_atomic t ts) (nat_lt (opened e) (closed e + 128)) (partner 0 e) t h in
    (λ i. stand_by (is_unicode_name t) (is_opener t) (is_closer t) (nat_lt (opened e) (closed e + 128)) (opened e == closed e) (none i) (partner 0 e) t) ∙ known
  where
    stand_known : (unicode opener closer level atomic : Bool) (deep : Bool) (found : Option Terminal) (t : Terminal) → stand_by unicode opener closer deep level atomic found t ≡ true → stand_by unicode opener closer deep level false found t ≡ true
    stand_known true opener closer level atomic deep found t h = h
    stand_known false true closer level atomic deep found t h = h
    stand_known false false true level atomic deep found t h = h
    stand_known false false false true atomic deep found t h = refl
    stand_known false false false false atomic deep found t h = refl

sound_kept : (e front run tail : List Terminal) (u : Terminal) (new : List Terminal) → is_run_from nowhere 0 run ≡ true → is_run_from nowhere 0 (u ∷ new) ≡ true → sound_from [] (u ∷ new) ≡ true →
    list_all begins_no_body (u ∷ new) ≡ true → deepest 0 (u ∷ new) ≤ deepest 0 run → sound_from e (front ++ (run ++ tail)) ≡ true → sound_from e (front ++ ((u ∷ new) ++ tail)) ≡ true
unfolding begins_atomic
sound_kept e [] run tail u new nests fine alone calm low h =
    let after = after_run 0 0 run tail e e nests (over_none e) h in
    new_sound 0 0 (u ∷ new) tail [] e e (inside_none e) fine alone calm (λ m l. after.fits m (omega (arith, low, l))) (sym (sound_over after.count after.earlier e tail after.over) ∙ after.sound)
sound_kept e (t ∷ []) run tail u new nests fine alone calm low h =
    let both = before_true (may_stand e t (run ++ tail)) (sound_from (t ∷ e) (run ++ tail)) h in
    let first = no_body u (and_parts (begins_no_body u) (list_all begins_no_body new) calm).0 in
    both_true (may_stand e t ((u ∷ new) ++ tail)) (sound_from (t ∷ e) ((u ∷ new) ++ tail))
    (stand_kept e t (run ++ tail) ((u ∷ new) ++ tail) (no_atomic t u (new ++ tail) first.atomic) both.0)
    (sound_kept (t ∷ e) [] run tail u new nests fine alone calm low both.1)
sound_kept e (t ∷ s ∷ front) run tail u new nests fine alone calm low h =
    let both = before_true (may_stand e t (s ∷ front ++ (run ++ tail))) (sound_from (t ∷ e) (s ∷ front ++ (run ++ tail))) h in
    both_true (may_stand e t (s ∷ front ++ ((u ∷ new) ++ tail))) (sound_from (t ∷ e) (s ∷ front ++ ((u ∷ new) ++ tail)))
    (same_next e t s (front ++ (run ++ tail)) (front ++ ((u ∷ new) ++ tail)) both.0)
    (sound_kept (t ∷ e) (s ∷ front) run tail u new nests fine alone calm low both.1)
  where
    same_next : (e : List Terminal) (t s : Terminal) (xs ys : List Terminal) → may_stand e t (s ∷ xs) ≡ true → may_stand e t (s ∷ ys) ≡ true
    same_next e t s xs ys h = h

pub soundness_stays : SoundnessStays
unfolding is_sound
soundness_stays front run tail u new nests alone calm low h = sound_kept [] front run tail u new nests (sound_nests 0 [] (u ∷ new) level_none alone) alone calm low h
