-- New tokens, by their kinds and bytes.
use Rattle.std.proofs.Common.{◌≡◌, ℕ, zero, suc, ◌+◌, ◌<◌, Bool, true, false, List, [], ◌∷◌, ◌++◌, length, get_or, drop, length-drop, length-append, append_assoc, sym, refl, ap, ◌∙◌, subst, arith}
use Rattle.std.proofs.lemmas.Bool.{and_parts}
use Rattle.std.proofs.lemmas.Bool.Decides.{nat_tests}
use Rattle.std.proofs.lemmas.List.{drop-drop, drop_at, get_or_append_left, get_or-append-add}
use Rattle.std.specs.Prelude.{◌==◌, ◌&&◌, ◌||◌, if◌then◌else◌}
use Rattle.std.specs.List.{list_all}
use Rattle.law_renumber.specs.sql_token.declared.token.TokKind.{TokKind}
use Rattle.law_renumber.specs.sql_token.declared.token.TokKind.TheVariants.{Blank, Word, Str, UName}
use Rattle.law_renumber.specs.sql_token.Token.{Text, At, Leads, begins_byte_order_mark, begins_word, is_blank, is_word, is_prefix, IsRun, blank_from}
use Rattle.law_renumber.proofs.of_sql_token.TokenLaws.{at_place}
use Rattle.law_edit_tokens.specs.Exchange.{Made, made_text, made_toks, IsTokenBefore, Fits, IsPlainWord}
use Rattle.law_edit_tokens.proofs.KindOf.{word_kind_is}
use Rattle.law_edit_tokens.proofs.Prefix.{not_first}

-- tokens that fit follow one another
pub made_lead : (u : Text) (i : ℕ) (ps : List Made) (rest : Text) → drop i u ≡ made_text ps ++ rest → Fits (i == 0) ps rest →
    Leads u i (made_toks i ps) (i + length (made_text ps))
made_lead u i [] rest same fits = omega arith
made_lead u i (p ∷ ps) rest same fits =
    let one = fits.0 in
    let some = one.some in
    let front : drop i u ≡ p.1 ++ (made_text ps ++ rest) = same ∙ append_assoc p.1 (made_text ps) rest in
    let size : length (drop i u) ≡ length p.1 + length (made_text ps ++ rest) = ap (λ (x : Text). length x) front ∙ length-append p.1 (made_text ps ++ rest) in
    let total = length-drop i u in
    let here : At u i p.0 (i + length p.1) = at_place u i (length p.1) p.0 (sym front) some (omega arith) one.kind one.takes in
    let next : drop (i + length p.1) u ≡ made_text ps ++ rest =
    sym (drop-drop (length p.1) i u) ∙ ap (λ (x : Text). drop (length p.1) x) front ∙ drop_at p.1 (made_text ps ++ rest) (length p.1) refl in
    let flag = not_first (i + length p.1) (omega arith) in
    let end : i + length p.1 + length (made_text ps) ≡ i + length (p.1 ++ made_text ps) = omega (arith, length-append p.1 (made_text ps)) in (
      refl,
      here,
      subst (λ (x : ℕ). Leads u (i + length p.1) (made_toks (i + length p.1) ps) x) end
          (made_lead u (i + length p.1) ps rest next (subst (λ (s : Bool). Fits s ps rest) (sym flag) fits.1)),
    )

-- ---- words and blanks

all_each : (p : ℕ → Bool) (w : Text) → list_all p w ≡ true → (k : ℕ) → k < length w → p (get_or w k 0) ≡ true
all_each p [] h k low = absurd (omega arith)
all_each p (x ∷ w) h zero low = (and_parts (p x) (list_all p w) h).0
all_each p (x ∷ w) h (suc k) low = all_each p w (and_parts (p x) (list_all p w) h).1 k (omega arith)

at_rest : (w rest : Text) → get_or (w ++ rest) (length w) 0 ≡ get_or rest 0 0
at_rest w rest = let zero : length w + 0 ≡ length w = omega arith in ap (λ (x : ℕ). get_or (w ++ rest) x 0) (sym zero) ∙ get_or-append-add w rest 0 0

pub plain_second : (b c d : ℕ) → begins_word b ≡ true → (c == 39) ≡ false → (c == 38) ≡ false →
    ((b == 39 || (is_prefix b && c == 39) || ((b == 117 || b == 85) && c == 38 && d == 39)) ≡ false) × (((b == 117 || b == 85) && c == 38 && d == 34) ≡ false)
plain_second b c d w quote and =
    let one = first b w in
    (λ x. (one x || quotes (is_prefix b) c quote x || amp (b == 117 || b == 85) c d 39 and x), amp (b == 117 || b == 85) c d 34 and)
  where
    first : (b : ℕ) → begins_word b ≡ true → (b == 39) ≡ false
    first b h = grind (arith, nat_tests)

    quotes : (p : Bool) (c : ℕ) → (c == 39) ≡ false → (p && c == 39) ≡ false
    quotes p c h = grind (arith, nat_tests)

    amp : (p : Bool) (c d q : ℕ) → (c == 38) ≡ false → (p && c == 38 && d == q) ≡ false
    amp p c d q h = grind (arith, nat_tests)

pub word_bytes : (c : ℕ) → is_word c ≡ true → ((c == 39) ≡ false) × ((c == 38) ≡ false)
word_bytes c h = (grind (arith, nat_tests), grind (arith, nat_tests))

pub low_unmarked : (s : Bool) (b c d : ℕ) → b < 128 → (s && (b == 239 && c == 187 && d == 191)) ≡ false
low_unmarked s b c d h = grind (arith, nat_tests)

pub word_fits : (s : Bool) (w rest : Text) → IsPlainWord w → is_word (get_or rest 0 0) ≡ false → IsTokenBefore s (Word, w) rest
word_fits s w rest plain ends =
    let long = plain.long in
    let byte : (k : ℕ) → k < length w → get_or (w ++ rest) k 0 ≡ get_or w k 0 = λ k low. get_or_append_left w rest 0 k low in
    let b = byte 0 (omega arith) in
    let c = byte 1 (omega arith) in
    let z : Text = w ++ rest in
    let word : begins_word (get_or z 0 0) ≡ true = ap begins_word b ∙ plain.begins in
    let low : get_or z 0 0 < 128 = subst (λ (x : ℕ). x < 128) (sym b) plain.ascii in
    let plain_byte = word_bytes (get_or z 1 0) (ap is_word c ∙ all_each is_word w plain.bytes 1 (omega arith)) in
    let second = plain_second (get_or z 0 0) (get_or z 1 0) (get_or z 2 0) word plain_byte.0 plain_byte.1 in
    let mark = low_unmarked s (get_or z 0 0) (get_or z 1 0) (get_or z 2 0) low in
    record {
      some = omega arith;
      kind = sym (word_kind_is s z word mark ∙ (λ x. if second.0 x then Str else (if second.1 x then UName else Word)));
      takes = record {
        begun = omega arith;
        within = omega (arith, length-append w rest);
        each = λ k one h. ap is_word (byte k h) ∙ all_each is_word w plain.bytes k h;
        stops = λ _. ap is_word (at_rest w rest) ∙ ends;
      };
    }

pub blank_low : (b : ℕ) → is_blank b ≡ true → b < 128
blank_low b h = grind (arith, nat_tests)

pub blank_kind : (s mark : Bool) (other : TokKind) (b : Bool) → b ≡ true → (if b || mark then Blank else other) ≡ Blank
blank_kind s mark other b h = λ x. if h x || mark then Blank else other

pub blank_fits : (s : Bool) (w rest : Text) → list_all is_blank w ≡ true → 0 < length w → is_blank (get_or rest 0 0) ≡ false → IsTokenBefore s (Blank, w) rest
blank_fits s w rest all some ends =
    let byte : (k : ℕ) → k < length w → get_or (w ++ rest) k 0 ≡ get_or w k 0 = λ k low. get_or_append_left w rest 0 k low in
    let z : Text = w ++ rest in
    let first : is_blank (get_or z 0 0) ≡ true = ap is_blank (byte 0 some) ∙ all_each is_blank w all 0 some in
    let mark = low_unmarked s (get_or z 0 0) (get_or z 1 0) (get_or z 2 0) (blank_low (get_or z 0 0) first) in
    let from : blank_from s z ≡ 1 = λ x. if mark x then 3 else 1 in
    record {
      some = some;
      kind = sym (blank_kind s (s && begins_byte_order_mark z) _ (is_blank (get_or z 0 0)) first);
      takes = subst (λ (x : ℕ). IsRun Blank z x (length w)) (sym from) (record {
        begun = omega arith;
        within = omega (arith, length-append w rest);
        each = λ k one h. ap is_blank (byte k h) ∙ all_each is_blank w all k h;
        stops = λ _. ap is_blank (at_rest w rest) ∙ ends;
      });
    }
