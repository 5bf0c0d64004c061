-- An answer with its cause is the only one.
use Rattle.std.proofs.Common.{◌≡◌, ◌∙◌, ℕ, ◌<◌, ◌≤◌, List, length, ap, sym, refl, subst, arith, inl, inr}
use Rattle.std.proofs.lemmas.Str.{IsUtf8-string_bytes}
use Rattle.std.specs.Prelude.{◌↔◌, IfOk, IsUtf8, Result, Ok, Err, String, string_bytes}
use Rattle.law_type_fixes.specs.lint_base.declared.edit.Edit.{Edit}
use Rattle.fix_edit.specs.Answer.{CanBeMade, IsAnswer, IsTooLong, OkOrNoMemory}
use Rattle.law_type_fixes.specs.law_fixes.Edited.{edited}
use Rattle.fix_edit.specs.Faults.{AreGood, AreGoodBelow, IsBadAt, IsGoodAt, IsInText, IsOverlapAt}
use Rattle.fix_edit.specs.declared.error.FixError.{FixError}
use Rattle.fix_edit.specs.declared.error.FixError.TheVariants.{BadRange, Overlap, TooLong, NoMemory}
use Rattle.fix_edit.proofs.EditSteps.{good_here, some_same}
use Rattle.std.proofs.lemmas.Bool.{cases_lt}
use Rattle.std.proofs.lemmas.Option.{slice_get_within}

-- the first bad edit has this number
record IsFirst (text : List ℕ) (edits : List Edit) (n : ℕ) : Type 0 where
  within : n < length edits
  first : AreGoodBelow text edits n
  bad : ¬ (IsGoodAt text edits n)

first_bad : (text : List ℕ) (edits : List Edit) (n : ℕ) → IsBadAt text edits n → IsFirst text edits n
first_bad text edits n h = record {
  within = slice_get_within edits n h.edit h.is;
  first = h.first;
  bad = λ good. h.bad (good_here text edits n h.edit h.is good).in_text;
}

first_overlap : (text : List ℕ) (edits : List Edit) (n : ℕ) → IsOverlapAt text edits n → IsFirst text edits n
first_overlap text edits n h = record {
  within = slice_get_within edits n h.edit h.is;
  first = h.first;
  bad = λ good. let apart = (good_here text edits n h.edit h.is good).apart in omega (arith, apart, h.overlap);
}

not_below : (text : List ℕ) (edits : List Edit) (m n : ℕ) → IsFirst text edits m → AreGoodBelow text edits n → n ≤ m
not_below text edits m n h good = elim (cases_lt m n) [ inl l ↦ absurd (h.bad (good m l)) | inr l ↦ l ]

one_first : (text : List ℕ) (edits : List Edit) (m n : ℕ) → IsFirst text edits m → IsFirst text edits n → m ≡ n
one_first text edits m n h k = omega (arith, not_below text edits m n h k.first, not_below text edits n m k h.first)

not_good : (text : List ℕ) (edits : List Edit) (n : ℕ) → IsFirst text edits n → ¬ (AreGood text edits)
not_good text edits n h good = h.bad (good n h.within)

-- and is bad in one way
not_both : (text : List ℕ) (edits : List Edit) (n : ℕ) → IsBadAt text edits n → ¬ (IsOverlapAt text edits n)
not_both text edits n h k = h.bad (subst (λ (e : Edit). IsInText text e.text_range) (some_same k.edit h.edit (sym k.is ∙ h.is)) k.in_text)

bad_or_overlap : (text : List ℕ) (edits : List Edit) (m n : ℕ) → IsBadAt text edits m → ¬ (IsOverlapAt text edits n)
bad_or_overlap text edits m n h k =
    let same : m ≡ n = one_first text edits m n (first_bad text edits m h) (first_overlap text edits n k) in
    not_both text edits n (subst (λ (i : ℕ). IsBadAt text edits i) same h) k

not_long : {text : List ℕ} {edits : List Edit} → CanBeMade text edits → ¬ (IsTooLong text edits)
not_long h k = omega (arith, h.short, k.long)

-- each refusal comes exactly by its cause
module _ {X : Type 0} (bytes : X → List ℕ) (text : List ℕ) (edits : List Edit) where
  pub bad_range_exactly : (r : Result X FixError) → IsAnswer text edits bytes r → (n : ℕ) → (r ≡ Err (BadRange n)) ↔ IsBadAt text edits n
  bad_range_exactly r h n = (λ e. subst (λ (x : Result X FixError). IsAnswer text edits bytes x) e h, comes r h)
    where
      comes : (r : Result X FixError) → IsAnswer text edits bytes r → IsBadAt text edits n → r ≡ Err (BadRange n)
      comes (Ok x) h k = absurd (not_good text edits n (first_bad text edits n k) h.0.good)
      comes (Err (BadRange m)) h k = ap (λ i. Err (BadRange i)) (one_first text edits m n (first_bad text edits m h) (first_bad text edits n k))
      comes (Err (Overlap m)) h k = absurd (bad_or_overlap text edits n m k h)
      comes (Err TooLong) h k = absurd (not_good text edits n (first_bad text edits n k) h.good)
      comes (Err NoMemory) h k = absurd (not_good text edits n (first_bad text edits n k) h.good)

  pub overlap_exactly : (r : Result X FixError) → IsAnswer text edits bytes r → (n : ℕ) → (r ≡ Err (Overlap n)) ↔ IsOverlapAt text edits n
  overlap_exactly r h n = (λ e. subst (λ (x : Result X FixError). IsAnswer text edits bytes x) e h, comes r h)
    where
      comes : (r : Result X FixError) → IsAnswer text edits bytes r → IsOverlapAt text edits n → r ≡ Err (Overlap n)
      comes (Ok x) h k = absurd (not_good text edits n (first_overlap text edits n k) h.0.good)
      comes (Err (BadRange m)) h k = absurd (bad_or_overlap text edits m n h k)
      comes (Err (Overlap m)) h k = ap (λ i. Err (Overlap i)) (one_first text edits m n (first_overlap text edits m h) (first_overlap text edits n k))
      comes (Err TooLong) h k = absurd (not_good text edits n (first_overlap text edits n k) h.good)
      comes (Err NoMemory) h k = absurd (not_good text edits n (first_overlap text edits n k) h.good)

  pub too_long_exactly : (r : Result X FixError) → IsAnswer text edits bytes r → (r ≡ Err TooLong) ↔ IsTooLong text edits
  too_long_exactly r h = (λ e. subst (λ (x : Result X FixError). IsAnswer text edits bytes x) e h, comes r h)
    where
      comes : (r : Result X FixError) → IsAnswer text edits bytes r → IsTooLong text edits → r ≡ Err TooLong
      comes (Ok x) h k = absurd (not_long h.0 k)
      comes (Err (BadRange m)) h k = absurd (not_good text edits m (first_bad text edits m h) k.good)
      comes (Err (Overlap m)) h k = absurd (not_good text edits m (first_overlap text edits m h) k.good)
      comes (Err TooLong) h k = refl
      comes (Err NoMemory) h k = absurd (not_long h k)

  -- edits that can be made are made, unless memory runs out
  pub made_or_no_memory : (r : Result X FixError) → IsAnswer text edits bytes r → CanBeMade text edits → OkOrNoMemory r (λ x. bytes x ≡ edited text edits)
  made_or_no_memory (Ok x) h k = h.1
  made_or_no_memory (Err (BadRange m)) h k = not_good text edits m (first_bad text edits m h) k.good
  made_or_no_memory (Err (Overlap m)) h k = not_good text edits m (first_overlap text edits m h) k.good
  made_or_no_memory (Err TooLong) h k = not_long k h
  made_or_no_memory (Err NoMemory) h k = tt

-- a text is UTF-8
pub made_is_utf8 : {Z E : Type 0} (r : Result (String Z) E) → IfOk r (λ made. IsUtf8 (string_bytes made))
made_is_utf8 (Ok made) = IsUtf8-string_bytes made
made_is_utf8 (Err e) = tt
