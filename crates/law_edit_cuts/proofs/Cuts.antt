-- A list that is cut at marks of depth 0, where a run of it is exchanged. (Statements keep their `;`, and the parts between
-- commas have no comma: what the mark t leaves of itself in the part that it ends is `mark t`, and `base` is the rest where
-- nothing is left.)
use Rattle.std.proofs.Common.{◌≡◌, ◌≤◌, ℕ, zero, suc, ◌+◌, Bool, true, false, cond, List, [], ◌∷◌, ◌++◌, sym, refl, ap, ◌∙◌, subst, arith}
use Rattle.std.proofs.lemmas.Bool.{false≢true}
use Rattle.std.proofs.lemmas.Bool.Decides.{nat_tests}
use Rattle.std.specs.Prelude.{◌==◌, ◌&&◌}
use Rattle.law_renumber.specs.sql_token.declared.terminal.Terminal.{Terminal}
use Rattle.law_renumber.specs.sql_token.Terminal.{is_opener, is_closer}
use Rattle.law_renumber.specs.sql_token.Depth.{onto, one_if, opened, closed}
use Rattle.law_edit_cuts.specs.Runs.{is_run_from}
use Rattle.law_edit_cuts.proofs.Nested.{Next, step, end_zero, not_both}
use Rattle.law_edit_cuts.proofs.Nested.Next.{opens, closes, passes}

-- ---- the first of the lists, and the others

abbrev pub head_of : List (List Terminal) → List Terminal
head_of [] = []
head_of (x ∷ xs) = x

abbrev pub tail_of : List (List Terminal) → List (List Terminal)
tail_of [] = []
tail_of (x ∷ xs) = xs

-- a list of terminals before the first of these lists
abbrev pub onto_all : List Terminal → List (List Terminal) → List (List Terminal)
onto_all [] ps = ps
onto_all (t ∷ ts) ps = onto t (onto_all ts ps)

pub onto_is : (t : Terminal) (ps : List (List Terminal)) → onto t ps ≡ (t ∷ head_of ps) ∷ tail_of ps
onto_is t [] = refl
onto_is t (p ∷ ps) = refl

pub onto_some : (r : Terminal) (rs : List Terminal) (xs : List (List Terminal)) → onto_all (r ∷ rs) xs ≡ ((r ∷ rs) ++ head_of xs) ∷ tail_of xs
onto_some r [] xs = onto_is r xs
onto_some r (s ∷ rs) xs = ap (λ (x : List (List Terminal)). onto r x) (onto_some s rs xs)

pub onto_list : (front x : List Terminal) (xs : List (List Terminal)) → onto_all front (x ∷ xs) ≡ (front ++ x) ∷ xs
onto_list [] x xs = refl
onto_list (t ∷ front) x xs = ap (λ (y : List (List Terminal)). onto t y) (onto_list front x xs)

pub heads : {x y : List Terminal} {us vs : List (List Terminal)} → x ∷ us ≡ y ∷ vs → x ≡ y
heads e = cc

pub rests : {x y : List Terminal} {us vs : List (List Terminal)} → x ∷ us ≡ y ∷ vs → us ≡ vs
rests e = cc

first : {x y : Terminal} {us vs : List Terminal} → x ∷ us ≡ y ∷ vs → x ≡ y
first e = cc

rest : {x y : Terminal} {us vs : List Terminal} → x ∷ us ≡ y ∷ vs → us ≡ vs
rest e = cc

pub no_list : (xs : List (List Terminal)) (y : List Terminal) (ys : List (List Terminal)) → [] ≡ xs ++ y ∷ ys → ⊥
no_list [] y ys e = cc
no_list (x ∷ xs) y ys e = cc

no_terminal : (p : List Terminal) (u : Terminal) (z : List Terminal) → [] ≡ p ++ u ∷ z → ⊥
no_terminal [] u z e = cc
no_terminal (x ∷ p) u z e = cc

further : (t : Terminal) (ts earlier later : List Terminal) → ts ≡ earlier ++ later → t ∷ ts ≡ t ∷ (earlier ++ later)
further t ts earlier later e = ap (λ (l : List Terminal). t ∷ l) e

-- where there is another list, or a terminal in the first one, there is a first one
both_parts : (ps : List (List Terminal)) (xs : List (List Terminal)) (y : List Terminal) (ys : List (List Terminal)) → tail_of ps ≡ xs ++ y ∷ ys → ps ≡ head_of ps ∷ tail_of ps
both_parts [] xs y ys e = absurd (no_list xs y ys e)
both_parts (p ∷ ps) xs y ys e = refl

filled_parts : (ps : List (List Terminal)) (p : List Terminal) (u : Terminal) (z : List Terminal) → head_of ps ≡ p ++ u ∷ z → ps ≡ head_of ps ∷ tail_of ps
filled_parts [] p u z e = absurd (no_terminal p u z e)
filled_parts (q ∷ ps) p u z e = refl

-- ---- counts

pub opened_if : (t : Terminal) (p : List Terminal) → opened (t ∷ p) ≡ one_if (is_opener t) + opened p
opened_if t p = by (is_opener t) (opened p)
  where
    by : (b : Bool) (n : ℕ) → cond b (suc n) n ≡ one_if b + n
    by true n = omega arith
    by false n = omega arith

pub closed_if : (t : Terminal) (p : List Terminal) → closed (t ∷ p) ≡ one_if (is_closer t) + closed p
closed_if t p = by (is_closer t) (closed p)
  where
    by : (b : Bool) (n : ℕ) → cond b (suc n) n ≡ one_if b + n
    by true n = omega arith
    by false n = omega arith

both_true : (a b : Bool) → (a && b) ≡ true → (a ≡ true) × (b ≡ true)
both_true true true h = (refl, refl)
both_true true false h = absurd (false≢true h)
both_true false b h = absurd (false≢true h)

equal : (o c : ℕ) → (o == c) ≡ true → o ≡ c
equal o c h = grind (arith, nat_tests)

deep : (o d c : ℕ) → c ≤ o → (o + suc d == c) ≡ false
deep o d c low = grind (arith, nat_tests)

-- ---- lists that are cut

-- what is left of a mark is nothing, or the mark itself; no first part, where nothing is left, has a terminal
pub record IsMark (mark : Terminal → List Terminal) (base : List (List Terminal)) : Type 0 where
  pub itself : (t r : Terminal) (z : List Terminal) → mark t ≡ r ∷ z → t ≡ r
  pub short : (t y : Terminal) (p : List Terminal) (u : Terminal) (z : List Terminal) → mark t ≡ y ∷ (p ++ u ∷ z) → ⊥
  pub empty : head_of base ≡ []
  pub alone : tail_of base ≡ []

module _ (test : Terminal → Bool) (mark : Terminal → List Terminal) (base : List (List Terminal)) where
  abbrev pub cut_from : ℕ → ℕ → List Terminal → List (List Terminal)
  cut_from o c [] = base
  cut_from o c (t ∷ ts) = cond (o == c && test t) (mark t ∷ cut_from 0 0 ts) (onto t (cut_from (o + one_if (is_opener t)) (c + one_if (is_closer t)) ts))

  shift : (o c : ℕ) (ts : List Terminal) → cut_from (o + 1) (c + 1) ts ≡ cut_from o c ts
  shift o c [] = refl
  shift o c (t ∷ ts) =
      let op : o + 1 + one_if (is_opener t) ≡ o + one_if (is_opener t) + 1 = omega arith in
      let cl : c + 1 + one_if (is_closer t) ≡ c + one_if (is_closer t) + 1 = omega arith in
      let later = (λ i. cut_from (op i) (cl i) ts) ∙ shift (o + one_if (is_opener t)) (c + one_if (is_closer t)) ts in
      λ i. cond (shifted o c i && test t) (mark t ∷ cut_from 0 0 ts) (onto t (later i))
    where
      shifted : (o c : ℕ) → (o + 1 == c + 1) ≡ (o == c)
      shifted o c = grind (arith, nat_tests)

  -- ---- a run is passed by

  -- With the depth that t leaves, all that follows is cut alike.
  record Left (t : Terminal) (run : List Terminal) (o d c : ℕ) : Type 0 where
    pub depth : ℕ
    pub fine : is_run_from test depth run ≡ true
    pub same : (ts : List Terminal) → cut_from (o + d + one_if (is_opener t)) (c + one_if (is_closer t)) ts ≡ cut_from (o + depth) c ts

  left : (d : ℕ) (t : Terminal) (run : List Terminal) (o c : ℕ) → Next test d t run → Left t run o d c
  left d t run o c (opens p q h) = record {
    depth = suc d;
    fine = h;
    same = λ ts.
        let a : o + d + one_if (is_opener t) ≡ o + suc d = ap (λ (b : Bool). o + d + one_if b) p ∙ (let x : o + d + 1 ≡ o + suc d = omega arith in x) in
        let b : c + one_if (is_closer t) ≡ c = ap (λ (b : Bool). c + one_if b) q ∙ (let x : c + 0 ≡ c = omega arith in x) in
        λ i. cut_from (a i) (b i) ts;
  }
  left d t run o c (closes below e p q h) = record {
    depth = below;
    fine = h;
    same = λ ts.
        let a : o + d + one_if (is_opener t) ≡ o + below + 1 = ap (λ (b : Bool). o + d + one_if b) p ∙ (let x : o + d + 0 ≡ o + below + 1 = omega (arith, e) in x) in
        let b : c + one_if (is_closer t) ≡ c + 1 = ap (λ (b : Bool). c + one_if b) q in
        (λ i. cut_from (a i) (b i) ts) ∙ shift (o + below) c ts;
  }
  left d t run o c (passes p q h) = record {
    depth = d;
    fine = h;
    same = λ ts.
        let a : o + d + one_if (is_opener t) ≡ o + d = ap (λ (b : Bool). o + d + one_if b) p ∙ (let x : o + d + 0 ≡ o + d = omega arith in x) in
        let b : c + one_if (is_closer t) ≡ c = ap (λ (b : Bool). c + one_if b) q ∙ (let x : c + 0 ≡ c = omega arith in x) in
        λ i. cut_from (a i) (b i) ts;
  }

  no_cut : (o d c : ℕ) (t : Terminal) → c ≤ o → (d ≡ 0 → test t ≡ false) → (o + d == c && test t) ≡ false
  no_cut o zero c t low h = ap (λ (b : Bool). o + 0 == c && b) (h refl) ∙ not_both (o + 0 == c)
  no_cut o (suc d) c t low h = λ i. deep o d c low i && test t

  run_onto : (d : ℕ) (run : List Terminal) → is_run_from test d run ≡ true → (o c : ℕ) → c ≤ o → (ts : List Terminal) → cut_from (o + d) c (run ++ ts) ≡ onto_all run (cut_from o c ts)
  run_onto d [] h o c low ts = let none = end_zero d h in let same : o + d ≡ o = omega (arith, none) in λ i. cut_from (same i) c ts
  run_onto d (r ∷ run) h o c low ts =
      let s = step test d r run h in
      let l = left d r run o c s.next in
      let none = no_cut o d c r low s.quiet in
      let later = run_onto l.depth run l.fine o c low ts in
      (λ i. cond (none i) (mark r ∷ cut_from 0 0 (run ++ ts)) (onto r (cut_from (o + d + one_if (is_opener r)) (c + one_if (is_closer r)) (run ++ ts))))
      ∙ ap (λ (y : List (List Terminal)). onto r y) (l.same (run ++ ts) ∙ later)

  pub passed : (r : Terminal) (run : List Terminal) → is_run_from test 0 (r ∷ run) ≡ true → (o c : ℕ) → c ≤ o → (ts : List Terminal) →
      cut_from o c ((r ∷ run) ++ ts) ≡ ((r ∷ run) ++ head_of (cut_from o c ts)) ∷ tail_of (cut_from o c ts)
  passed r run h o c low ts =
      let zero : o ≡ o + 0 = omega arith in
      (λ i. cut_from (zero i) c ((r ∷ run) ++ ts)) ∙ run_onto 0 (r ∷ run) h o c low ts ∙ onto_some r run (cut_from o c ts)

  -- ---- a place in the list

  -- After these terminals, m openers and n closers are to be counted, and what follows is cut after these parts.
  abbrev pub Goes : ℕ → ℕ → List Terminal → List (List Terminal) → List Terminal → ℕ → ℕ → Type 0
  Goes o c earlier before front m n = (ts : List Terminal) → cut_from o c (earlier ++ ts) ≡ before ++ onto_all front (cut_from m n ts)

  goes_cut : (o c : ℕ) (x : Terminal) (earlier : List Terminal) (before : List (List Terminal)) (front : List Terminal) (m n : ℕ) → (o == c && test x) ≡ true → Goes 0 0 earlier before front m n → Goes o c (x ∷ earlier) (mark x ∷ before) front m n
  goes_cut o c x earlier before front m n h g ts =
      (λ i. cond (h i) (mark x ∷ cut_from 0 0 (earlier ++ ts)) (onto x (cut_from (o + one_if (is_opener x)) (c + one_if (is_closer x)) (earlier ++ ts))))
      ∙ ap (λ (y : List (List Terminal)). mark x ∷ y) (g ts)

  goes_on : (o c : ℕ) (x : Terminal) (earlier front : List Terminal) (m n : ℕ) → (o == c && test x) ≡ false → Goes (o + one_if (is_opener x)) (c + one_if (is_closer x)) earlier [] front m n → Goes o c (x ∷ earlier) [] (x ∷ front) m n
  goes_on o c x earlier front m n h g ts =
      (λ i. cond (h i) (mark x ∷ cut_from 0 0 (earlier ++ ts)) (onto x (cut_from (o + one_if (is_opener x)) (c + one_if (is_closer x)) (earlier ++ ts))))
      ∙ ap (λ (y : List (List Terminal)). onto x y) (g ts)

  goes_over : (o c : ℕ) (x : Terminal) (earlier s : List Terminal) (before : List (List Terminal)) (front : List Terminal) (m n : ℕ) → (o == c && test x) ≡ false →
      Goes (o + one_if (is_opener x)) (c + one_if (is_closer x)) earlier (s ∷ before) front m n → Goes o c (x ∷ earlier) ((x ∷ s) ∷ before) front m n
  goes_over o c x earlier s before front m n h g ts =
      (λ i. cond (h i) (mark x ∷ cut_from 0 0 (earlier ++ ts)) (onto x (cut_from (o + one_if (is_opener x)) (c + one_if (is_closer x)) (earlier ++ ts))))
      ∙ ap (λ (y : List (List Terminal)). onto x y) (g ts)

  -- the same parts by another name
  goes_first : (o c : ℕ) (earlier : List Terminal) (t y : Terminal) (front : List Terminal) (m n : ℕ) → t ≡ y → Goes o c earlier [] (t ∷ front) m n → Goes o c earlier [] (y ∷ front) m n
  goes_first o c earlier t y front m n same g = subst (λ (x : Terminal). Goes o c earlier [] (x ∷ front) m n) same g

  goes_part : (o c : ℕ) (earlier s x : List Terminal) (before : List (List Terminal)) (front : List Terminal) (m n : ℕ) → s ≡ x → Goes o c earlier (s ∷ before) front m n → Goes o c earlier (x ∷ before) front m n
  goes_part o c earlier s x before front m n same g = subst (λ (y : List Terminal). Goes o c earlier (y ∷ before) front m n) same g

  -- With a run at that place, its part holds it.
  pub goes_run : (o c : ℕ) (earlier : List Terminal) (before : List (List Terminal)) (front : List Terminal) (m n : ℕ) → Goes o c earlier before front m n → n ≤ m →
      (ts : List Terminal) (r : Terminal) (run : List Terminal) → is_run_from test 0 (r ∷ run) ≡ true →
      cut_from o c (earlier ++ ((r ∷ run) ++ ts)) ≡ before ++ (front ++ ((r ∷ run) ++ head_of (cut_from m n ts))) ∷ tail_of (cut_from m n ts)
  goes_run o c earlier before front m n g low ts r run h =
      g ((r ∷ run) ++ ts)
      ∙ ap (λ (y : List (List Terminal)). before ++ onto_all front y) (passed r run h m n low ts)
      ∙ ap (λ (y : List (List Terminal)). before ++ y) (onto_list front ((r ∷ run) ++ head_of (cut_from m n ts)) (tail_of (cut_from m n ts)))

  run_in : (o c : ℕ) (earlier : List Terminal) (before : List (List Terminal)) (front : List Terminal) (m n : ℕ) → Goes o c earlier before front m n → n ≤ m →
      (ts tail : List Terminal) (after : List (List Terminal)) → head_of (cut_from m n ts) ≡ tail → tail_of (cut_from m n ts) ≡ after → (r : Terminal) (run : List Terminal) → is_run_from test 0 (r ∷ run) ≡ true →
      cut_from o c (earlier ++ ((r ∷ run) ++ ts)) ≡ before ++ (front ++ ((r ∷ run) ++ tail)) ∷ after
  run_in o c earlier before front m n g low ts tail after here others r run h =
      goes_run o c earlier before front m n g low ts r run h ∙ (λ i. before ++ (front ++ ((r ∷ run) ++ here i)) ∷ others i)

  pub record Reached (o c : ℕ) (earlier : List Terminal) : Type 0 where
    pub before : List (List Terminal)
    pub front : List Terminal
    pub openers : ℕ
    pub closers : ℕ
    pub goes : Goes o c earlier before front openers closers
    pub low : c + closed earlier ≤ o + opened earlier → closers ≤ openers

  pub reached : ((t : Terminal) → test t ≡ true → is_opener t ≡ false) → (o c : ℕ) (earlier : List Terminal) → Reached o c earlier
  reached calm o c [] = record { before = []; front = []; openers = o; closers = c; goes = λ ts. refl; low = λ l. omega (arith, l) }
  reached calm o c (x ∷ earlier) = by (o == c && test x) refl (reached calm 0 0 earlier) (reached calm (o + one_if (is_opener x)) (c + one_if (is_closer x)) earlier)
    where
      later : c + closed (x ∷ earlier) ≤ o + opened (x ∷ earlier) → c + one_if (is_closer x) + closed earlier ≤ o + one_if (is_opener x) + opened earlier
      later l = omega (arith, l, opened_if x earlier, closed_if x earlier)

      by : (b : Bool) → (o == c && test x) ≡ b → Reached 0 0 earlier → Reached (o + one_if (is_opener x)) (c + one_if (is_closer x)) earlier → Reached o c (x ∷ earlier)
      by true h r s = record {
        before = mark x ∷ r.before;
        front = r.front;
        openers = r.openers;
        closers = r.closers;
        goes = goes_cut o c x earlier r.before r.front r.openers r.closers h r.goes;
        low = λ l. r.low (after_cut l);
      }
        where
          after_cut : c + closed (x ∷ earlier) ≤ o + opened (x ∷ earlier) → 0 + closed earlier ≤ 0 + opened earlier
          after_cut l =
              let both = both_true (o == c) (test x) h in let e = equal o c both.0 in
              let none = ap one_if (calm x both.1) in
              omega (arith, e, l, none, opened_if x earlier, closed_if x earlier)
      by false h r s = on s.before s.goes
        where
          on : (before : List (List Terminal)) → Goes (o + one_if (is_opener x)) (c + one_if (is_closer x)) earlier before s.front s.openers s.closers → Reached o c (x ∷ earlier)
          on [] g = record {
            before = [];
            front = x ∷ s.front;
            openers = s.openers;
            closers = s.closers;
            goes = goes_on o c x earlier s.front s.openers s.closers h g;
            low = λ l. s.low (later l);
          }
          on (y ∷ before) g = record {
            before = (x ∷ y) ∷ before;
            front = s.front;
            openers = s.openers;
            closers = s.closers;
            goes = goes_over o c x earlier y before s.front s.openers s.closers h g;
            low = λ l. s.low (later l);
          }

  -- ---- back from a part to the list

  -- the run is no deeper below the ground than its part begins
  abbrev AtRun : ℕ → ℕ → List (List Terminal) → List Terminal → Type 0
  AtRun o c [] p = c + closed p ≤ o + opened p
  AtRun o c (x ∷ xs) p = closed p ≤ opened p

  ground : (xs : List (List Terminal)) (p : List Terminal) → closed p ≤ opened p → AtRun 0 0 xs p
  ground [] p l = omega arith
  ground (x ∷ xs) p l = l

  -- The list goes on with u after these parts.
  record Back (o c : ℕ) (ts : List Terminal) (before : List (List Terminal)) (front : List Terminal) (u : Terminal) (z : List Terminal) (ys : List (List Terminal)) : Type 0 where
    pub earlier : List Terminal
    pub later : List Terminal
    pub openers : ℕ
    pub closers : ℕ
    pub list : ts ≡ earlier ++ later
    pub goes : Goes o c earlier before front openers closers
    pub low : closers ≤ openers
    pub here : head_of (cut_from openers closers later) ≡ u ∷ z
    pub others : tail_of (cut_from openers closers later) ≡ ys

  module _ (is : IsMark mark base) where
    back : (o c : ℕ) (ts : List Terminal) (xs : List (List Terminal)) (p : List Terminal) (u : Terminal) (z : List Terminal) (ys : List (List Terminal)) → AtRun o c xs p →
        cut_from o c ts ≡ xs ++ (p ++ u ∷ z) ∷ ys → Back o c ts xs p u z ys
    back o c ts [] [] u z ys low e = record {
      earlier = [];
      later = ts;
      openers = o;
      closers = c;
      list = refl;
      goes = λ us. refl;
      low = (let l : c + 0 ≤ o + 0 = low in omega arith);
      here = ap head_of e;
      others = ap tail_of e;
    }
    back o c [] [] (y ∷ p) u z ys low e = absurd (no_terminal (y ∷ p) u z (sym is.empty ∙ ap head_of e))
    back o c [] (x ∷ xs) p u z ys low e = absurd (no_list xs (p ++ u ∷ z) ys (sym is.alone ∙ ap tail_of e))
    back o c (t ∷ ts) [] (y ∷ p) u z ys low e = by (o == c && test t) refl e (λ l g. back (o + one_if (is_opener t)) (c + one_if (is_closer t)) ts [] p u z ys l g)
      where
        S : List (List Terminal)
        S = cut_from (o + one_if (is_opener t)) (c + one_if (is_closer t)) ts

        by : (b : Bool) → (o == c && test t) ≡ b → cond b (mark t ∷ cut_from 0 0 ts) (onto t S) ≡ (y ∷ (p ++ u ∷ z)) ∷ ys →
            (AtRun (o + one_if (is_opener t)) (c + one_if (is_closer t)) [] p → S ≡ (p ++ u ∷ z) ∷ ys → Back (o + one_if (is_opener t)) (c + one_if (is_closer t)) ts [] p u z ys) → Back o c (t ∷ ts) [] (y ∷ p) u z ys
        by true h e each = absurd (is.short t y p u z (heads e))
        by false h e each =
            let both = sym (onto_is t S) ∙ e in
            let same = first (heads both) in
            let f = rest (heads both) in let g = rests both in
            let op = opened_if y p in let cl = closed_if y p in
            let same_op = ap (λ (x : Terminal). one_if (is_opener x)) same in
            let same_cl = ap (λ (x : Terminal). one_if (is_closer x)) same in
            let b = each (omega (arith, low, op, cl, same_op, same_cl)) (filled_parts S p u z f ∙ (λ i. f i ∷ g i)) in
            record {
              earlier = t ∷ b.earlier;
              later = b.later;
              openers = b.openers;
              closers = b.closers;
              list = further t ts b.earlier b.later b.list;
              goes = goes_first o c (t ∷ b.earlier) t y p b.openers b.closers same (goes_on o c t b.earlier p b.openers b.closers h b.goes);
              low = b.low;
              here = b.here;
              others = b.others;
            }
    back o c (t ∷ ts) (x ∷ xs) p u z ys low e = by (o == c && test t) refl e (λ g. back 0 0 ts xs p u z ys (ground xs p low) g) (λ s g. back (o + one_if (is_opener t)) (c + one_if (is_closer t)) ts (s ∷ xs) p u z ys low g)
      where
        S : List (List Terminal)
        S = cut_from (o + one_if (is_opener t)) (c + one_if (is_closer t)) ts

        by : (b : Bool) → (o == c && test t) ≡ b → cond b (mark t ∷ cut_from 0 0 ts) (onto t S) ≡ x ∷ (xs ++ (p ++ u ∷ z) ∷ ys) →
            (cut_from 0 0 ts ≡ xs ++ (p ++ u ∷ z) ∷ ys → Back 0 0 ts xs p u z ys) →
            ((s : List Terminal) → S ≡ s ∷ (xs ++ (p ++ u ∷ z) ∷ ys) → Back (o + one_if (is_opener t)) (c + one_if (is_closer t)) ts (s ∷ xs) p u z ys) → Back o c (t ∷ ts) (x ∷ xs) p u z ys
        by true h e cut on =
            let same = heads e in
            let b = cut (rests e) in
            record {
              earlier = t ∷ b.earlier;
              later = b.later;
              openers = b.openers;
              closers = b.closers;
              list = further t ts b.earlier b.later b.list;
              goes = goes_part o c (t ∷ b.earlier) (mark t) x xs p b.openers b.closers same (goes_cut o c t b.earlier xs p b.openers b.closers h b.goes);
              low = b.low;
              here = b.here;
              others = b.others;
            }
        by false h e cut on =
            let both = sym (onto_is t S) ∙ e in
            let same = heads both in let g = rests both in
            let b = on (head_of S) (both_parts S xs (p ++ u ∷ z) ys g ∙ ap (λ (l : List (List Terminal)). head_of S ∷ l) g) in
            record {
              earlier = t ∷ b.earlier;
              later = b.later;
              openers = b.openers;
              closers = b.closers;
              list = further t ts b.earlier b.later b.list;
              goes = goes_part o c (t ∷ b.earlier) (t ∷ head_of S) x xs p b.openers b.closers same (goes_over o c t b.earlier (head_of S) xs p b.openers b.closers h b.goes);
              low = b.low;
              here = b.here;
              others = b.others;
            }

    -- a run at the start of the first part is one at the start of the list
    record Peeled (o c : ℕ) (ts run q : List Terminal) (ys : List (List Terminal)) : Type 0 where
      pub tail : List Terminal
      pub list : ts ≡ run ++ tail
      pub here : head_of (cut_from o c tail) ≡ q
      pub others : tail_of (cut_from o c tail) ≡ ys

    peeled : (d : ℕ) (run : List Terminal) → is_run_from test d run ≡ true → (o c : ℕ) → c ≤ o → (ts q : List Terminal) (ys : List (List Terminal)) →
        head_of (cut_from (o + d) c ts) ≡ run ++ q → tail_of (cut_from (o + d) c ts) ≡ ys → Peeled o c ts run q ys
    peeled d [] h o c low ts q ys p g =
        let none = end_zero d h in let same : o ≡ o + d = omega (arith, none) in
        record { tail = ts; list = refl; here = (λ i. head_of (cut_from (same i) c ts)) ∙ p; others = (λ i. tail_of (cut_from (same i) c ts)) ∙ g }
    peeled d (r ∷ run) h o c low [] q ys p g = absurd (no_terminal [] r (run ++ q) (sym is.empty ∙ p))
    peeled d (r ∷ run) h o c low (t ∷ ts) q ys p g = by (o + d == c && test t) refl p g (λ x f k l. peeled x run f o c low ts q ys k l)
      where
        S : List (List Terminal)
        S = cut_from (o + d + one_if (is_opener t)) (c + one_if (is_closer t)) ts

        by : (b : Bool) → (o + d == c && test t) ≡ b → head_of (cond b (mark t ∷ cut_from 0 0 ts) (onto t S)) ≡ r ∷ (run ++ q) → tail_of (cond b (mark t ∷ cut_from 0 0 ts) (onto t S)) ≡ ys →
            ((x : ℕ) → is_run_from test x run ≡ true → head_of (cut_from (o + x) c ts) ≡ run ++ q → tail_of (cut_from (o + x) c ts) ≡ ys → Peeled o c ts run q ys) → Peeled o c (t ∷ ts) (r ∷ run) q ys
        by true a p g each =
            let same = is.itself t r (run ++ q) p in
            let none = no_cut o d c r low (step test d r run h).quiet in
            absurd (false≢true (sym none ∙ ap (λ (x : Terminal). o + d == c && test x) (sym same) ∙ a))
        by false a p g each =
            let p' : t ∷ head_of S ≡ r ∷ (run ++ q) = ap head_of (sym (onto_is t S)) ∙ p in
            let g' : tail_of S ≡ ys = ap tail_of (sym (onto_is t S)) ∙ g in
            let same = first p' in
            let l = left d t run o c (step test d t run (ap (λ (x : Terminal). is_run_from test d (x ∷ run)) same ∙ h)).next in
            let b = each l.depth l.fine (ap head_of (sym (l.same ts)) ∙ rest p') (ap tail_of (sym (l.same ts)) ∙ g') in
            let list = b.list in
            record { tail = b.tail; list = λ i. same i ∷ list i; here = b.here; others = b.others }

    pub record RunAt (o c : ℕ) (ts : List Terminal) (before : List (List Terminal)) (front run tail : List Terminal) (after : List (List Terminal)) : Type 0 where
      pub earlier : List Terminal
      pub later : List Terminal
      pub openers : ℕ
      pub closers : ℕ
      pub list : ts ≡ earlier ++ (run ++ later)
      pub goes : Goes o c earlier before front openers closers
      pub cut : (u : Terminal) (new : List Terminal) → is_run_from test 0 (u ∷ new) ≡ true → cut_from o c (earlier ++ ((u ∷ new) ++ later)) ≡ before ++ (front ++ ((u ∷ new) ++ tail)) ∷ after

    -- A run of one part is a run of the list, and other runs in its place are in that part.
    pub run_at : (ts : List Terminal) (before : List (List Terminal)) (front : List Terminal) (t : Terminal) (run tail : List Terminal) (after : List (List Terminal)) →
        is_run_from test 0 (t ∷ run) ≡ true → closed front ≤ opened front → cut_from 0 0 ts ≡ before ++ (front ++ ((t ∷ run) ++ tail)) ∷ after → RunAt 0 0 ts before front (t ∷ run) tail after
    run_at ts before front t run tail after h low e =
        let b = back 0 0 ts before front t (run ++ tail) after (ground before front low) e in
        let zero : b.openers + 0 ≡ b.openers = omega arith in
        let p = peeled 0 (t ∷ run) h b.openers b.closers b.low b.later tail after (ap (λ (x : ℕ). head_of (cut_from x b.closers b.later)) zero ∙ b.here) (ap (λ (x : ℕ). tail_of (cut_from x b.closers b.later)) zero ∙ b.others) in
        record {
          earlier = b.earlier;
          later = p.tail;
          openers = b.openers;
          closers = b.closers;
          list = b.list ∙ ap (λ (l : List Terminal). b.earlier ++ l) p.list;
          goes = b.goes;
          cut = λ u new g. run_in 0 0 b.earlier before front b.openers b.closers b.goes b.low p.tail tail after p.here p.others u new g;
        }
