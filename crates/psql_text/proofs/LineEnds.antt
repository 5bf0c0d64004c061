-- Lines end at the first line feed, or with the text.
use Rattle.std.proofs.Common.{◌≡◌, ◌∙◌, ℕ, ◌+◌, ◌-◌, ◌<◌, ◌≤◌, ◌==◌, Bool, true, false, List, get_or, drop, length, sym, ap, refl, arith}
use Rattle.std.proofs.lemmas.List.{get_or-drop, length-drop}
use Rattle.memchr.specs.Find.{is_byte}
use Rattle.psql_text.specs.Lines.{IsLineEnd}

-- the byte at a place, seen from an earlier one
seen : (t rest : List ℕ) (at n : ℕ) → rest ≡ drop at t → at ≤ n → get_or rest (n - at) 0 ≡ get_or t n 0
seen t rest at n e l =
    let p : at + (n - at) ≡ n = omega arith in
    ap (λ (r : List ℕ). get_or r (n - at) 0) e ∙ (get_or-drop at t (n - at) 0 ∙ ap (λ (i : ℕ). get_or t i 0) p)

is_no : (b : Bool) → (b ≡ true → ⊥) → b ≡ false
is_no true h = absurd (h refl)
is_no false h = refl

no_feed : (t rest : List ℕ) (at end : ℕ) → rest ≡ drop at t → ((k : ℕ) → 0 ≤ k → k < end → is_byte 10 (get_or rest k 0) ≡ true → ⊥)
    → (n : ℕ) → at ≤ n → n < at + end → (get_or t n 0 == 10) ≡ false
no_feed t rest at end e h n l u =
    is_no (get_or t n 0 == 10) (λ m. h (n - at) (omega arith) (omega arith) (ap (λ (b : ℕ). is_byte 10 b) (seen t rest at n e l) ∙ m))

pub line_to : (t rest : List ℕ) (at n : ℕ) → rest ≡ drop at t → at ≤ length t → n < length rest → ((k : ℕ) → 0 ≤ k → k < n → is_byte 10 (get_or rest k 0) ≡ true → ⊥)
    → is_byte 10 (get_or rest n 0) ≡ true → IsLineEnd t at (at + n)
line_to t rest at n e within less h feed =
    let all : length rest ≡ length t - at = ap length e ∙ length-drop at t in
    let same : at + n - at ≡ n = omega arith in
    let found : get_or rest n 0 ≡ get_or t (at + n) 0 = ap (λ (i : ℕ). get_or rest i 0) (sym same) ∙ seen t rest at (at + n) e (omega arith) in
    record {
      begun = omega arith;
      within = omega arith;
      none = no_feed t rest at n e h;
      stops = λ l. ap (λ (b : ℕ). is_byte 10 b) (sym found) ∙ feed;
    }

pub line_through : (t rest : List ℕ) (at : ℕ) → rest ≡ drop at t → at ≤ length t → ((k : ℕ) → 0 ≤ k → k < length rest → is_byte 10 (get_or rest k 0) ≡ true → ⊥)
    → IsLineEnd t at (length t)
line_through t rest at e within h =
    let all : length rest ≡ length t - at = ap length e ∙ length-drop at t in
    record {
      begun = within;
      within = omega arith;
      none = λ n l u. no_feed t rest at (length rest) e h n l (omega arith);
      stops = λ l. absurd (omega arith);
    }
