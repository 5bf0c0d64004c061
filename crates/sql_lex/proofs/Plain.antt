-- Tokens of white space, words and marks, each known by the whole text.
use Rattle.std.proofs.Common.{◌≡◌, ℕ, ◌+◌, ◌-◌, ◌<◌, Bool, true, false, ◌&&◌, ◌==◌, if◌then◌else◌, length, drop, get_or, length-drop, refl, sym, ap, ◌∙◌, subst, arith}
use Rattle.std.proofs.lemmas.Bool.Decides.{nat_tests}
use Rattle.std.proofs.lemmas.List.{get_or-drop}
use Rattle.sql_token.specs.declared.token.TokKind.{TokKind}
use Rattle.sql_token.specs.declared.token.TokKind.TheVariants.{Blank, Word, Punct}
use Rattle.sql_token.specs.Token.{Text, is_blank, is_word, blank_from, runs_over, IsRun, At, kind_of}

-- the rest of a text from i on, byte by byte
pub drop_at : (t : Text) (i n m : ℕ) → i + n ≡ m → get_or (drop i t) n 0 ≡ get_or t m 0
drop_at t i n m e = get_or-drop i t n 0 ∙ ap (λ (x : ℕ). get_or t x 0) e

-- a run of the text is one of its rest from i on
run_here : (k : TokKind) (t : Text) (i j : ℕ) → ((n m : ℕ) → i + n ≡ m → runs_over k (drop i t) n ≡ runs_over k t m) → IsRun k t (i + 1) j → IsRun k (drop i t) 1 (j - i)
run_here k t i j same r = record {
  begun = omega (arith, r.begun);
  within = omega (arith, length-drop i t, r.begun, r.within);
  each = λ n from to. same n (i + n) refl ∙ r.each (i + n) (omega arith) (omega (arith, r.begun));
  stops = λ less.
      let place : i + (j - i) ≡ j = omega (arith, r.begun) in
      same (j - i) j place ∙ r.stops (omega (arith, length-drop i t, r.begun));
}

no_mark : (b : ℕ) → is_blank b ≡ true → (b == 239) ≡ false
no_mark b h = grind (arith, nat_tests)

from_one : (s : Bool) (z : Text) → (get_or z 0 0 == 239) ≡ false → blank_from s z ≡ 1
from_one true z q = λ i. if true && (q i && get_or z 1 0 == 187 && get_or z 2 0 == 191) then 3 else 1
from_one false z q = refl

here_kind : (t : Text) (i : ℕ) (k : TokKind) {z : Text} → z ≡ drop i t → k ≡ kind_of (i == 0) z → k ≡ kind_of (i == 0) (drop i t)
here_kind t i k rest kind = kind ∙ ap (λ (x : Text). kind_of (i == 0) x) rest

blank_kind : (s : Bool) (z : Text) → is_blank (get_or z 0 0) ≡ true → Blank ≡ kind_of s z
blank_kind s z h = rw h refl

pub word_at : (t : Text) (i j : ℕ) {z : Text} → z ≡ drop i t → Word ≡ kind_of (i == 0) z → IsRun Word t (i + 1) j → At t i Word j
word_at t i j rest kind r = record {
  before = omega (arith, r.begun);
  within = r.within;
  kind = here_kind t i Word rest kind;
  takes = run_here Word t i j (λ n m e. ap is_word (drop_at t i n m e)) r;
}

pub blank_at : (t : Text) (i j : ℕ) {z : Text} → z ≡ drop i t → Blank ≡ kind_of (i == 0) z → is_blank (get_or z 0 0) ≡ true → IsRun Blank t (i + 1) j → At t i Blank j
blank_at t i j rest kind blank r =
    let one = from_one (i == 0) (drop i t) (no_mark (get_or (drop i t) 0 0) (ap (λ (x : Text). is_blank (get_or x 0 0)) (sym rest) ∙ blank)) in
    record {
      before = omega (arith, r.begun);
      within = r.within;
      kind = here_kind t i Blank rest kind;
      takes = subst (λ (n : ℕ). IsRun Blank (drop i t) n (j - i)) (sym one) (run_here Blank t i j (λ n m e. ap is_blank (drop_at t i n m e)) r);
    }

pub punct_at : (t : Text) (i : ℕ) {z : Text} → z ≡ drop i t → Punct ≡ kind_of (i == 0) z → i < length t → At t i Punct (i + 1)
punct_at t i rest kind within = record {
  before = omega arith;
  within = omega arith;
  kind = here_kind t i Punct rest kind;
  takes = omega arith;
}

-- white space begins here
pub blank_here : (t : Text) (i j : ℕ) → is_blank (get_or t i 0) ≡ true → IsRun Blank t (i + 1) j → At t i Blank j
blank_here t i j blank r =
    let here : is_blank (get_or (drop i t) 0 0) ≡ true = ap is_blank (drop_at t i 0 i (omega arith)) ∙ blank in
    blank_at t i j refl (blank_kind (i == 0) (drop i t) here) here r
