-- Cuts, and how far a loop has found one.
use Rattle.std.proofs.Common.{◌≡◌, ℕ, zero, suc, ◌+◌, ◌-◌, ◌<◌, ◌≤◌, Bool, true, false, List, [], ◌∷◌, length, take, drop, get_or, refl, sym, ap, ◌∙◌, arith, min, if◌then◌else◌, inl, inr, ◌⊎◌}
use Rattle.std.proofs.lemmas.List.{take_min, length-take, take_all, length-take-le, get_or-take}
use Rattle.std.proofs.lemmas.Grind.{common_steps}
use Rattle.std.proofs.lemmas.Bool.Decides.{nat_tests}
use Rattle.std.proofs.lemmas.Bool.{cases_lt, true≢false}
use Rattle.std.proofs.lemmas.Str.{IsCharBoundary-end}
use Rattle.std.specs.Str.{IsCharBoundary}
use Rattle.sql_name.specs.Name.{cut_to, ends_on_boundary}
use Rattle.sql_name.specs.Cut.{IsLongestCut}

-- a text of at most n bytes is its own cut
pub cut_to_all : (n : ℕ) (s : List ℕ) → length s ≤ n → cut_to n s ≡ take n s
unfolding cut_to
cut_to_all zero s h = refl
cut_to_all (suc n) s h = grind (arith, nat_tests)

-- after n bytes that end on a boundary the cut is all of them
pub cut_to_here : (n : ℕ) (s : List ℕ) → ends_on_boundary s n ≡ true → cut_to n s ≡ take n s
unfolding cut_to
cut_to_here zero s h = refl
cut_to_here (suc n) s h = rw h refl

-- and else the cut is that of one byte less
pub cut_to_before : (n : ℕ) (s : List ℕ) → ends_on_boundary s n ≡ false → cut_to n s ≡ cut_to (n - 1) s
unfolding cut_to
cut_to_before zero s h = refl
cut_to_before (suc n) s h = rw h (ap (λ k. cut_to k s) (omega arith))

-- the test means a boundary
boundary_from_test : (s : List ℕ) (n : ℕ) → ends_on_boundary s n ≡ true → n ≤ length s → IsCharBoundary s n
boundary_from_test s n e l = (l, λ inside high. grind (arith, nat_tests))

test_from_boundary : (s : List ℕ) (n : ℕ) → IsCharBoundary s n → ends_on_boundary s n ≡ true
test_from_boundary s n b = by_place (cases_lt n (length s)) (cases_lt (get_or s n 0) 128)
  where
    by_place : (n < length s) ⊎ (length s ≤ n) → (get_or s n 0 < 128) ⊎ (128 ≤ get_or s n 0) → ends_on_boundary s n ≡ true
    by_place (inr past) w = grind (arith, nat_tests)
    by_place (inl inside) (inl low) = grind (arith, nat_tests)
    by_place (inl inside) (inr high) = let lead : 192 ≤ get_or s n 0 = b.1 inside high in grind (arith, nat_tests)

-- what a list has left after its element at len
pub rest_more : (xs rest : List ℕ) (len b : ℕ) → drop len xs ≡ b ∷ rest → rest ≡ drop (len + 1) xs
rest_more [] rest zero b e = absurd (cc)
rest_more [] rest (suc len) b e = absurd (cc)
rest_more (x ∷ xs) rest zero b e = cc
rest_more (x ∷ xs) rest (suc len) b e =
    let n : suc (len + 1) ≡ suc len + 1 = omega arith in
    rest_more xs rest len b e ∙ ap (λ n. drop n (x ∷ xs)) n

pub inside_more : (xs rest : List ℕ) (len b : ℕ) → drop len xs ≡ b ∷ rest → len + 1 ≤ length xs
inside_more [] rest zero b e = absurd (cc)
inside_more [] rest (suc len) b e = absurd (cc)
inside_more (x ∷ xs) rest zero b e = omega arith
inside_more (x ∷ xs) rest (suc len) b e = let h = inside_more xs rest len b e in omega arith

read_more : (xs rest : List ℕ) (len b : ℕ) → drop len xs ≡ b ∷ rest → get_or xs len 0 ≡ b
read_more [] rest zero b e = absurd (cc)
read_more [] rest (suc len) b e = absurd (cc)
read_more (x ∷ xs) rest zero b e = cc
read_more (x ∷ xs) rest (suc len) b e = read_more xs rest len b e

module _ (s rest : List ℕ) (limit len b : ℕ) (e : drop len (take limit s) ≡ b ∷ rest) where
  within : len < min limit (length s)
  within = omega (arith, inside_more (take limit s) rest len b e, length-take limit s)

  read : get_or s len 0 ≡ b
  read = sym (get_or-take limit s len 0 (omega (arith, within))) ∙ read_more (take limit s) rest len b e

  -- a byte that begins a character, or is one, ends a cut before it
  pub cut_before_lead : (b < 128) ⊎ (192 ≤ b) → take len s ≡ cut_to len s
  cut_before_lead w = sym (cut_to_here len s (passes w))
    where
      passes : (b < 128) ⊎ (192 ≤ b) → ends_on_boundary s len ≡ true
      passes (inl low) = let r = read in grind (arith, nat_tests)
      passes (inr lead) = let r = read in grind (arith, nat_tests)

  -- and a byte inside a character does not
  pub cut_before_inner : (boundary : ℕ) → 128 ≤ b → b < 192 → take boundary s ≡ cut_to (len - 1) s → take boundary s ≡ cut_to len s
  cut_before_inner boundary high low h = h ∙ sym (cut_to_before len s fails)
    where
      fails : ends_on_boundary s len ≡ false
      fails = let r = read in let w = within in grind (arith, nat_tests)

-- the cut to n bytes is the longest prefix that ends on a boundary
pub cut_to_longest : (n : ℕ) (s : List ℕ) → IsCharBoundary s 0 → IsLongestCut n s (cut_to n s)
unfolding cut_to
cut_to_longest zero s start = record {
  is_prefix = refl;
  fits = omega arith;
  ends_well = start;
  is_longest = λ n h b. h;
}
cut_to_longest (suc n) s start = by_test (ends_on_boundary s (suc n)) refl (cut_to_longest n s start)
  where
    here : ends_on_boundary s (suc n) ≡ true → IsLongestCut (suc n) s (take (suc n) s)
    here e = record {
      is_prefix = grind (arith, common_steps, take_min (suc n) s, length-take (suc n) s);
      fits = grind (arith, common_steps, length-take (suc n) s);
      ends_well = by_length (cases_lt (length s) (suc n)) (boundary_from_test s (suc n) e);
      is_longest = λ m h b. grind (arith, common_steps, length-take (suc n) s, b.0);
    }
      where
        by_length : (length s < suc n) ⊎ (suc n ≤ length s) → (suc n ≤ length s → IsCharBoundary s (suc n)) → IsCharBoundary s (length (take (suc n) s))
        by_length (inl short) w = let le : length s ≤ suc n = omega arith in rw (take_all (suc n) s le) (IsCharBoundary-end s)
        by_length (inr long) w = rw (length-take-le (suc n) s long) (w long)

    before : ends_on_boundary s (suc n) ≡ false → IsLongestCut n s (cut_to n s) → IsLongestCut (suc n) s (cut_to n s)
    before e r = record {
      is_prefix = r.is_prefix;
      fits = let h = r.fits in omega arith;
      ends_well = r.ends_well;
      is_longest = λ m h b. by_place m b (cases_lt m (suc n)) h;
    }
      where
        by_place : (m : ℕ) → IsCharBoundary s m → (m < suc n) ⊎ (suc n ≤ m) → m ≤ suc n → m ≤ length (cut_to n s)
        by_place m b (inl below) h = r.is_longest m (omega arith) b
        by_place m b (inr above) h =
            let same : m ≡ suc n = omega arith in
            absurd (true≢false (sym (test_from_boundary s m b) ∙ ap (ends_on_boundary s) same ∙ e))

    by_test : (t : Bool) → ends_on_boundary s (suc n) ≡ t → IsLongestCut n s (cut_to n s) → IsLongestCut (suc n) s (if t then take (suc n) s else cut_to n s)
    by_test true e r = here e
    by_test false e r = before e r
