-- The bracket list that comes first, where all brackets close: what is inside it, and that a mark outside of brackets is not looked
-- for in it.
use Rattle.std.proofs.Common.{◌≡◌, ◌≤◌, ℕ, zero, suc, ◌+◌, ◌-◌, Bool, true, false, cond, List, [], ◌∷◌, ◌++◌, length, take, sym, refl, ap, ◌∙◌, arith, Option, Some, None}
use Rattle.std.proofs.lemmas.Bool.{false≢true}
use Rattle.std.proofs.lemmas.Bool.Decides.{nat_tests}
use Rattle.std.proofs.lemmas.List.{take_at}
use Rattle.std.specs.Prelude.{◌==◌, ◌&&◌, nat_lt}
use Rattle.law_edit_inserts.specs.sql_keyword.declared.words.Keyword.{Keyword}
use Rattle.law_edit_inserts.specs.sql_token.declared.terminal.Terminal.{Terminal}
use Rattle.law_edit_inserts.specs.sql_token.Terminal.{is_keyword, is_opener, is_closer}
use Rattle.law_edit_inserts.specs.sql_token.Depth.{one_if, opened, closed, has_keyword, has_keyword_from}
use Rattle.law_edit_inserts.specs.sql_tree.Groups.{inside_list}
use Rattle.law_edit_inserts.specs.sql_tree.Split.{Test, word, before_from, before, has, closing, is_open_round_symbol}
use Rattle.law_edit_inserts.specs.law_edit_cuts.Runs.{is_run_from, is_closed, nowhere}
use Rattle.law_edit_inserts.proofs.of_law_edit_cuts.Nested.{Next, step, end_zero, open_not_closed, closed_is_level}
use Rattle.law_edit_inserts.proofs.of_law_edit_cuts.Nested.Next.{opens, closes, passes}
use Rattle.law_edit_types.proofs.TypeRuns.{put}

-- ---- counts at each place

-- all brackets close, and at no place more have closed than opened
pub record Levels (us : List Terminal) : Type 0 where
  pub total : opened us ≡ closed us
  pub low : (front tail : List Terminal) → us ≡ front ++ tail → closed front ≤ opened front

pub levels_of : (us : List Terminal) → is_closed us ≡ true → Levels us
levels_of us h =
    let all = closed_is_level us h in
    record {
      total = all.level;
      low = λ front tail e.
          let same : take (length front) us ≡ front = ap (λ (l : List Terminal). take (length front) l) e ∙ take_at front tail (length front) refl in
          let never = all.never (length front) in
          omega (arith, never, ap opened same, ap closed same);
    }

-- ---- runs in brackets

-- A closed run is passed by, whatever is open.
pub run_passes : (e d : ℕ) (run ys : List Terminal) → is_run_from nowhere e run ≡ true → is_run_from nowhere (e + d) (run ++ ys) ≡ is_run_from nowhere d ys
run_passes e d [] ys h = let none = end_zero e h in let same : e + d ≡ d = omega (arith, none) in ap (λ (x : ℕ). is_run_from nowhere x ys) same
run_passes e d (t ∷ run) ys h = by (step nowhere e t run h).next (λ x f. run_passes x d run ys f)
  where
    read : (n : ℕ) → Bool
    read n = is_run_from nowhere n (run ++ ys)

    opens_at : (n : ℕ) → is_opener t ≡ true → is_run_from nowhere n (t ∷ (run ++ ys)) ≡ is_run_from nowhere (suc n) (run ++ ys)
    opens_at zero p = λ i. cond (p i) (read 1) (cond (is_closer t) false (read 0))
    opens_at (suc n) p = λ i. cond (p i) (read (suc (suc n))) (cond (is_closer t) (read n) (read (suc n)))

    closes_at : (n : ℕ) → is_opener t ≡ false → is_closer t ≡ true → is_run_from nowhere (suc n) (t ∷ (run ++ ys)) ≡ is_run_from nowhere n (run ++ ys)
    closes_at n p q = λ i. cond (p i) (read (suc (suc n))) (cond (q i) (read n) (read (suc n)))

    passes_at : (n : ℕ) → is_opener t ≡ false → is_closer t ≡ false → is_run_from nowhere n (t ∷ (run ++ ys)) ≡ is_run_from nowhere n (run ++ ys)
    passes_at zero p q = λ i. cond (p i) (read 1) (cond (q i) false (read 0))
    passes_at (suc n) p q = λ i. cond (p i) (read (suc (suc n))) (cond (q i) (read n) (read (suc n)))

    by : Next nowhere e t run → ((x : ℕ) → is_run_from nowhere x run ≡ true → is_run_from nowhere (x + d) (run ++ ys) ≡ is_run_from nowhere d ys) → is_run_from nowhere (e + d) (t ∷ (run ++ ys)) ≡ is_run_from nowhere d ys
    by (opens p q f) each = let same : suc (e + d) ≡ suc e + d = omega arith in opens_at (e + d) p ∙ ap read same ∙ each (suc e) f
    by (closes below z p q f) each = let same : e + d ≡ suc (below + d) = omega (arith, z) in ap (λ (x : ℕ). is_run_from nowhere x (t ∷ (run ++ ys))) same ∙ closes_at (below + d) p q ∙ each below f
    by (passes p q f) each = passes_at (e + d) p q ∙ each e f

-- another closed run in the place of one
pub run_exchanges : (d : ℕ) (xs run new ys : List Terminal) → is_closed run ≡ true → is_closed new ≡ true → is_run_from nowhere d (xs ++ (run ++ ys)) ≡ true → is_run_from nowhere d (xs ++ (new ++ ys)) ≡ true
run_exchanges d [] run new ys h g f =
    let zero : d ≡ 0 + d = omega arith in
    ap (λ (x : ℕ). is_run_from nowhere x (new ++ ys)) zero ∙ run_passes 0 d new ys g ∙ sym (run_passes 0 d run ys h) ∙ ap (λ (x : ℕ). is_run_from nowhere x (run ++ ys)) (sym zero) ∙ f
run_exchanges d (x ∷ xs) run new ys h g f = put nowhere d x (xs ++ (new ++ ys)) (λ z. refl) (by (step nowhere d x (xs ++ (run ++ ys)) f).next (λ n e. run_exchanges n xs run new ys h g e))
  where
    by : Next nowhere d x (xs ++ (run ++ ys)) → ((n : ℕ) → is_run_from nowhere n (xs ++ (run ++ ys)) ≡ true → is_run_from nowhere n (xs ++ (new ++ ys)) ≡ true) → Next nowhere d x (xs ++ (new ++ ys))
    by (opens p q e) each = opens p q (each (suc d) e)
    by (closes below z p q e) each = closes below z p q (each below e)
    by (passes p q e) each = passes p q (each d e)

-- ---- where a bracket closes

-- what is inside the brackets, and after them
pub record InBrackets (d : ℕ) (ts : List Terminal) : Type 0 where
  pub inside : List Terminal
  pub end : Terminal
  pub after : List Terminal
  pub parts : ts ≡ inside ++ end ∷ after
  pub closed : is_run_from nowhere d inside ≡ true
  pub opener : is_opener end ≡ false
  pub closer : is_closer end ≡ true

pub in_brackets : (d : ℕ) (ts : List Terminal) → is_run_from nowhere (suc d) ts ≡ true → InBrackets d ts
in_brackets d [] h = absurd (false≢true (sym (none d) ∙ h))
  where
    none : (d : ℕ) → (suc d == 0) ≡ false
    none d = grind (arith, nat_tests)
in_brackets d (t ∷ ts) h = by (step nowhere (suc d) t ts h).next (λ x f. in_brackets x ts f)
  where
    further : (x : ℕ) (b : InBrackets x ts) → Next nowhere d t b.inside → InBrackets d (t ∷ ts)
    further x b next = record {
      inside = t ∷ b.inside;
      end = b.end;
      after = b.after;
      parts = ap (λ (l : List Terminal). t ∷ l) b.parts;
      closed = put nowhere d t b.inside (λ z. refl) next;
      opener = b.opener;
      closer = b.closer;
    }

    closing_at : (d' : ℕ) → d ≡ d' → is_opener t ≡ false → is_closer t ≡ true → is_run_from nowhere d' ts ≡ true → ((x : ℕ) → is_run_from nowhere (suc x) ts ≡ true → InBrackets x ts) → InBrackets d (t ∷ ts)
    closing_at zero z p q f each = record { inside = []; end = t; after = ts; parts = refl; closed = ap (λ (x : ℕ). is_run_from nowhere x []) z; opener = p; closer = q }
    closing_at (suc d') z p q f each = let b = each d' f in further d' b (closes d' z p q b.closed)

    same : (below : ℕ) → suc d ≡ suc below → d ≡ below
    same below e = omega (arith, e)

    by : Next nowhere (suc d) t ts → ((x : ℕ) → is_run_from nowhere (suc x) ts ≡ true → InBrackets x ts) → InBrackets d (t ∷ ts)
    by (opens p q f) each = let b = each (suc d) f in further (suc d) b (opens p q b.closed)
    by (closes below e p q f) each = closing_at below (same below e) p q f each
    by (passes p q f) each = let b = each d f in further d b (passes p q b.closed)

-- ---- what is inside a list

closing_shift : (o c : ℕ) (ts : List Terminal) → closing (o + 1) (c + 1) ts ≡ closing o c ts
closing_shift o c [] = refl
closing_shift o c (t ∷ ts) =
    let op : o + 1 + one_if (is_opener t) ≡ o + one_if (is_opener t) + 1 = omega arith in
    let cl : c + 1 + one_if (is_closer t) ≡ c + one_if (is_closer t) + 1 = omega arith in
    let rest = closing_shift (o + one_if (is_opener t)) (c + one_if (is_closer t)) ts in
    (λ i. cond (op i == cl i) 1 (suc (closing (op i) (cl i) ts)))
    ∙ (λ i. cond (shifted (o + one_if (is_opener t)) (c + one_if (is_closer t)) i) 1 (suc (rest i)))
  where
    shifted : (o c : ℕ) → (o + 1 == c + 1) ≡ (o == c)
    shifted o c = grind (arith, nat_tests)

above : (d : ℕ) → (suc d == 0) ≡ false
above d = grind (arith, nat_tests)

above_one : (d : ℕ) → (suc (suc d) == 1) ≡ false
above_one d = grind (arith, nat_tests)

-- the brackets that are open are passed by to the end of the run
closing_run : (d : ℕ) (run ys : List Terminal) → is_run_from nowhere d run ≡ true → closing (suc d) 0 (run ++ ys) ≡ length run + closing 1 0 ys
closing_run d [] ys h = let none = end_zero d h in let same : suc d ≡ 1 = omega (arith, none) in let zero : closing 1 0 ys ≡ 0 + closing 1 0 ys = omega arith in ap (λ (x : ℕ). closing x 0 ys) same ∙ zero
closing_run d (t ∷ run) ys h = by (step nowhere d t run h).next (λ x f. closing_run x run ys f)
  where
    all : List Terminal
    all = run ++ ys

    add : (n : ℕ) → suc (length run + n) ≡ suc (length run) + n
    add n = omega arith

    is : (o c : ℕ) (a b : Bool) → is_opener t ≡ a → is_closer t ≡ b → suc d + one_if a ≡ o → 0 + one_if b ≡ c → (o == c) ≡ false → closing (suc d) 0 (t ∷ all) ≡ suc (closing o c all)
    is o c a b p q x y test =
        (λ i. cond (suc d + one_if (p i) == 0 + one_if (q i)) 1 (suc (closing (suc d + one_if (p i)) (0 + one_if (q i)) all)))
        ∙ (λ i. cond (x i == y i) 1 (suc (closing (x i) (y i) all)))
        ∙ (λ i. cond (test i) 1 (suc (closing o c all)))

    by : Next nowhere d t run → ((x : ℕ) → is_run_from nowhere x run ≡ true → closing (suc x) 0 all ≡ length run + closing 1 0 ys) → closing (suc d) 0 (t ∷ all) ≡ suc (length run) + closing 1 0 ys
    by (opens p q f) each = is (suc (suc d)) 0 true false p q (omega arith) refl (above (suc d)) ∙ ap suc (each (suc d) f) ∙ add (closing 1 0 ys)
    by (closes below e p q f) each =
        let top : suc (suc below) ≡ suc below + 1 = omega arith in
        is (suc (suc below)) 1 false true p q (omega (arith, e)) refl (above_one below) ∙ ap suc (ap (λ (x : ℕ). closing x 1 all) top ∙ closing_shift (suc below) 0 all ∙ each below f) ∙ add (closing 1 0 ys)
    by (passes p q f) each = is (suc d) 0 false false p q (omega arith) refl (above d) ∙ ap suc (each d f) ∙ add (closing 1 0 ys)

abbrev pub bracketed : Terminal → List Terminal → Terminal → List Terminal → List Terminal
bracketed begin inside end after = begin ∷ (inside ++ end ∷ after)

pub inside_is : (begin : Terminal) (inside : List Terminal) (end : Terminal) (after : List Terminal) → is_open_round_symbol begin.symbol ≡ true → is_opener begin ≡ true → is_opener end ≡ false → is_closer end ≡ true → is_closed inside ≡ true →
    inside_list (bracketed begin inside end after) ≡ inside
unfolding inside_list
inside_is begin inside end after round opener p q h =
    let none = open_not_closed begin opener in
    let first : closing 0 0 (bracketed begin inside end after) ≡ suc (closing 1 0 (inside ++ end ∷ after)) =
    (λ i. cond (0 + one_if (opener i) == 0 + one_if (none i)) 1 (suc (closing (0 + one_if (opener i)) (0 + one_if (none i)) (inside ++ end ∷ after)))) in
    let last : closing 1 0 (end ∷ after) ≡ 1 = (λ i. cond (1 + one_if (p i) == 0 + one_if (q i)) 1 (suc (closing (1 + one_if (p i)) (0 + one_if (q i)) after))) in
    let run = closing_run 0 inside (end ∷ after) h in
    let size : closing 0 0 (bracketed begin inside end after) - 2 ≡ length inside = omega (arith, first, run, last) in
    (λ i. cond (round i) (take (size i) (inside ++ end ∷ after)) []) ∙ take_at inside (end ∷ after) (length inside) refl

-- ---- marks outside of brackets

-- whether the mark comes, where o openers and c closers came before
abbrev has_from : Test → Option Terminal → ℕ → ℕ → List Terminal → Bool
has_from mark e o c ts = nat_lt (before_from mark e o c ts) (length ts)

has_next : (mark : Test) (e : Option Terminal) (o c : ℕ) (t : Terminal) (ts : List Terminal) → has_from mark e o c (t ∷ ts) ≡ cond (o == c && mark e t ts) true (has_from mark (Some t) (o + one_if (is_opener t)) (c + one_if (is_closer t)) ts)
has_next mark e o c t ts = by (o == c && mark e t ts) (before_from mark (Some t) (o + one_if (is_opener t)) (c + one_if (is_closer t)) ts)
  where
    none : (n : ℕ) → nat_lt 0 (suc n) ≡ true
    none n = grind (arith, nat_tests)

    more : (n m : ℕ) → nat_lt (suc n) (suc m) ≡ nat_lt n m
    more n m = grind (arith, nat_tests)

    by : (b : Bool) (n : ℕ) → nat_lt (cond b 0 (suc n)) (suc (length ts)) ≡ cond b true (nat_lt n (length ts))
    by true n = none (length ts)
    by false n = more n (length ts)

-- a mark that is the same whatever comes before it
abbrev pub IsBlind : Test → Type 0
IsBlind mark = (e : Option Terminal) (t : Terminal) (ts : List Terminal) → mark e t ts ≡ mark None t ts

module _ (mark : Test) (blind : IsBlind mark) where
  has_blind : (e d : Option Terminal) (o c : ℕ) (ts : List Terminal) → has_from mark e o c ts ≡ has_from mark d o c ts
  has_blind e d o c [] = refl
  has_blind e d o c (t ∷ ts) =
      let same = blind e t ts ∙ sym (blind d t ts) in
      has_next mark e o c t ts ∙ (λ i. cond (o == c && same i) true (has_from mark (Some t) (o + one_if (is_opener t)) (c + one_if (is_closer t)) ts)) ∙ sym (has_next mark d o c t ts)

  has_shift : (e : Option Terminal) (o c : ℕ) (ts : List Terminal) → has_from mark e (o + 1) (c + 1) ts ≡ has_from mark e o c ts
  has_shift e o c [] = refl
  has_shift e o c (t ∷ ts) =
      let op : o + 1 + one_if (is_opener t) ≡ o + one_if (is_opener t) + 1 = omega arith in
      let cl : c + 1 + one_if (is_closer t) ≡ c + one_if (is_closer t) + 1 = omega arith in
      let rest = (λ i. has_from mark (Some t) (op i) (cl i) ts) ∙ has_shift (Some t) (o + one_if (is_opener t)) (c + one_if (is_closer t)) ts in
      has_next mark e (o + 1) (c + 1) t ts ∙ (λ i. cond (shifted o c i && mark e t ts) true (rest i)) ∙ sym (has_next mark e o c t ts)
    where
      shifted : (o c : ℕ) → (o + 1 == c + 1) ≡ (o == c)
      shifted o c = grind (arith, nat_tests)

  -- in brackets it does not count
  has_run : (d : ℕ) (e : Option Terminal) (run ys : List Terminal) → is_run_from nowhere d run ≡ true → has_from mark e (suc d) 0 (run ++ ys) ≡ has_from mark None 1 0 ys
  has_run d e [] ys h = let none = end_zero d h in let same : suc d ≡ 1 = omega (arith, none) in ap (λ (x : ℕ). has_from mark e x 0 ys) same ∙ has_blind e None 1 0 ys
  has_run d e (t ∷ run) ys h = by (step nowhere d t run h).next (λ x f. has_run x (Some t) run ys f)
    where
      all : List Terminal
      all = run ++ ys

      is : (o c : ℕ) (a b : Bool) → is_opener t ≡ a → is_closer t ≡ b → suc d + one_if a ≡ o → 0 + one_if b ≡ c → has_from mark e (suc d) 0 (t ∷ all) ≡ has_from mark (Some t) o c all
      is o c a b p q x y =
          has_next mark e (suc d) 0 t all
          ∙ (λ i. cond (above d i && mark e t all) true (has_from mark (Some t) (suc d + one_if (p i)) (0 + one_if (q i)) all))
          ∙ (λ i. has_from mark (Some t) (x i) (y i) all)

      by : Next nowhere d t run → ((x : ℕ) → is_run_from nowhere x run ≡ true → has_from mark (Some t) (suc x) 0 all ≡ has_from mark None 1 0 ys) → has_from mark e (suc d) 0 (t ∷ all) ≡ has_from mark None 1 0 ys
      by (opens p q f) each = is (suc (suc d)) 0 true false p q (omega arith) refl ∙ each (suc d) f
      by (closes below z p q f) each = is (suc below + 1) (0 + 1) false true p q (omega (arith, z)) refl ∙ has_shift (Some t) (suc below) 0 all ∙ each below f
      by (passes p q f) each = is (suc d) 0 false false p q (omega arith) refl ∙ each d f

  -- What is inside of the brackets does not matter.
  pub has_after : (begin : Terminal) (inside : List Terminal) (end : Terminal) (after : List Terminal) → ((ts : List Terminal) → mark None begin ts ≡ false) → is_opener begin ≡ true → is_opener end ≡ false → is_closer end ≡ true → is_closed inside ≡ true →
      has mark (bracketed begin inside end after) ≡ has mark after
  unfolding before
  has_after begin inside end after none opener p q h =
      let other = open_not_closed begin opener in
      let first = none (inside ++ end ∷ after) in
      has_next mark None 0 0 begin (inside ++ end ∷ after)
      ∙ (λ i. cond (first i) true (has_from mark (Some begin) (0 + one_if (opener i)) (0 + one_if (other i)) (inside ++ end ∷ after)))
      ∙ has_run 0 (Some begin) inside (end ∷ after) h
      ∙ has_next mark None 1 0 end after
      ∙ (λ i. has_from mark (Some end) (1 + one_if (p i)) (0 + one_if (q i)) after)
      ∙ has_shift (Some end) 0 0 after
      ∙ has_blind (Some end) None 0 0 after

-- ---- key words outside of brackets

keyword_has : (w : Keyword) (e : Option Terminal) (o c : ℕ) (ts : List Terminal) → has_keyword_from w o c ts ≡ has_from (word w) e o c ts
unfolding word
keyword_has w e o c [] = refl
keyword_has w e o c (t ∷ ts) =
    let rest = keyword_has w (Some t) (o + one_if (is_opener t)) (c + one_if (is_closer t)) ts in
    (λ i. cond (o == c && is_keyword w t) true (rest i)) ∙ sym (has_next (word w) e o c t ts)

word_blind : (w : Keyword) → IsBlind (word w)
unfolding word
word_blind w e t ts = refl

pub keyword_after : (w : Keyword) (begin : Terminal) (inside : List Terminal) (end : Terminal) (after : List Terminal) → is_keyword w begin ≡ false → is_opener begin ≡ true → is_opener end ≡ false → is_closer end ≡ true → is_closed inside ≡ true →
    has_keyword w (bracketed begin inside end after) ≡ has (word w) after
unfolding has_keyword before word
keyword_after w begin inside end after none opener p q h =
    keyword_has w None 0 0 (bracketed begin inside end after) ∙ has_after (word w) (word_blind w) begin inside end after (λ ts. none) opener p q h
