-- After an operator that lost its trailing signs each of them is an operator.
use Rattle.std.proofs.Common.{◌≡◌, ℕ, zero, suc, ◌+◌, ◌-◌, ◌<◌, ◌≤◌, max, Bool, true, false, not, ◌&&◌, ◌||◌, ◌==◌, if◌then◌else◌, List, [], ◌∷◌, length, take, drop, get_or, length-drop, refl, sym, ap, ◌∙◌, subst, arith, ◌⊎◌, inl, inr, add-one}
use Rattle.std.proofs.lemmas.Bool.{and_parts, cases_eq, false≢true, not-true}
use Rattle.std.proofs.lemmas.Bool.Decides.{nat_tests}
use Rattle.std.proofs.lemmas.List.{get_or-take, length-take-le}
use Rattle.std.proofs.lemmas.List.Folds.{list_any_more}
use Rattle.std.proofs.lemmas.List.Sums.{suffix_len-take_no, suffix_len-take_yes, suffix_len_is}
use Rattle.std.proofs.Math.Seq.{take-length}
use Rattle.std.specs.Char.{is_ascii_digit}
use Rattle.std.specs.List.{suffix_len, list_any}
use Rattle.sql_token.specs.declared.token.Tok.{Tok}
use Rattle.sql_token.specs.declared.token.TokKind.{TokKind}
use Rattle.sql_token.specs.declared.token.TokKind.TheVariants.{Blank, LineComment, BlockComment, Word, Quoted, Str, UName, Dollar, Param, Number, Op, Punct, Other}
use Rattle.sql_token.specs.Quote.{delimiter_len}
use Rattle.sql_token.specs.Comment.{opens}
use Rattle.sql_token.specs.Token.{Text, is_blank, is_special, is_sign, is_op, is_punct, is_prefix, begins_word, begins_blank, begins_line, begins_comment, runs_over, op_len, IsOp, At, Leads, Takes, kind_of}
use Rattle.sql_token.proofs.TokenLaws.{at_place}
use Rattle.sql_lex.specs.Signs.{begins_sign, Signs, SignsFrom}
use Rattle.sql_lex.proofs.Plain.{drop_at}

runs_drop : (t : Text) (i n m : ℕ) → i + n ≡ m → runs_over Op (drop i t) n ≡ runs_over Op t m
runs_drop t i n m e =
    let here = drop_at t i n m e in
    let after = drop_at t i (n + 1) (m + 1) (omega arith) in
    λ x. is_op (here x) && not (begins_comment (here x) (after x))

either : (b : Bool) → (b ≡ true) ⊎ (b ≡ false)
either true = inl refl
either false = inr refl

suffix_step : (p : ℕ → Bool) (xs : Text) (n k : ℕ) → suc n ≤ length xs → (n - suffix_len p (take n xs) ≤ k → k < n → p (get_or xs k 0) ≡ true) → suc n - suffix_len p (take (suc n) xs) ≤ k → k < suc n → p (get_or xs k 0) ≡ true
suffix_step p xs n k within again from before =
    let back : suc n - 1 ≡ n = omega arith in
    elim (either (p (get_or xs n 0))) [
      | inl passes ↦ (let size : suffix_len p (take (suc n) xs) ≡ 1 + suffix_len p (take n xs) = suffix_len-take_yes p xs (suc n) 0 (omega arith) within (ap (λ (m : ℕ). p (get_or xs m 0)) back ∙ passes) ∙ ap (λ (m : ℕ). 1 + suffix_len p (take m xs)) back in
          elim (cases_eq k n) [
            | inl same ↦ ap (λ (m : ℕ). p (get_or xs m 0)) same ∙ passes
            | inr other ↦ again (omega arith) (omega arith)
          ])
      | inr fails ↦ (let size : suffix_len p (take (suc n) xs) ≡ 0 = suffix_len-take_no p xs (suc n) 0 (omega arith) within (ap (λ (m : ℕ). p (get_or xs m 0)) back ∙ fails) in absurd (omega arith))
    ]

-- the elements of a suffix pass its test
suffix_all : (p : ℕ → Bool) (xs : Text) (n k : ℕ) → n ≤ length xs → n - suffix_len p (take n xs) ≤ k → k < n → p (get_or xs k 0) ≡ true
suffix_all p xs zero k within from before = absurd (omega arith)
suffix_all p xs (suc n) k within from before = suffix_step p xs n k within (suffix_all p xs n k (omega arith)) from before

after_op : (special : Bool) (len suffix m : ℕ) → (if special then len else max 1 (len - suffix)) ≤ m → m < len → len - suffix ≤ m
after_op true len suffix m from before = absurd (omega arith)
after_op false len suffix m from before = omega arith

tail_signs : (run : Text) (m : ℕ) → op_len run ≤ m → m < length run → is_sign (get_or run m 0) ≡ true
tail_signs run m from before =
    suffix_all is_sign run (length run) m (omega arith) (rw (take-length run) (after_op (list_any is_special run) (length run) (suffix_len is_sign run) m from before)) before

op_len_within : (run : Text) → 0 < length run → op_len run ≤ length run
op_len_within run some = elim (list_any is_special run) as (λ b. (if b then length run else max 1 (length run - suffix_len is_sign run)) ≤ length run) [ true ↦ omega arith | false ↦ omega arith ]

after : (t : Text) (i j : ℕ) → i < j → j ≤ length t → IsOp (drop i t) (j - i) → SignsFrom t j
after t i j before within p =
    let z = drop i t in
    let all : p.run ≤ length z = p.is_run.within in
    let fits : i + p.run ≤ length t = omega (arith, length-drop i t, p.is_run.begun) in
    let size : length (take p.run z) ≡ p.run = length-take-le p.run z all in
    let least = p.is_run.begun in
    let small : j - i ≤ p.run = omega (arith, op_len_within (take p.run z) (omega arith), p.length) in (
      i + p.run,
      record {
        begun = omega arith;
        within = fits;
        signs = λ n from to.
            let place : i + (n - i) ≡ n = omega arith in
            let inside : n - i < p.run = omega arith in
            sym (ap is_sign (drop_at t i (n - i) n place)) ∙ sym (ap is_sign (get_or-take p.run z (n - i) 0 inside)) ∙ tail_signs (take p.run z) (n - i) (omega (arith, p.length)) (omega arith);
        runs = λ n from to.
            let place : i + (n - i) ≡ n = omega arith in
            sym (runs_drop t i (n - i) n place) ∙ p.is_run.each (n - i) (omega arith) (omega arith);
        stops = λ more. sym (runs_drop t i p.run (i + p.run) refl) ∙ p.is_run.stops (omega (arith, length-drop i t));
      },
    )

-- what comes after an operator
pub signs_after : (t : Text) (i j : ℕ) (k : TokKind) → k ≡ Op → At t i k j → SignsFrom t j
signs_after t i j k is here = after t i j here.before here.within (subst (λ (x : TokKind). Takes (i == 0) x (drop i t) (j - i)) is here.takes)

-- what comes after tokens the last of which is an operator
pub after_tokens : (t : Text) (i j : ℕ) (ks : List Tok) (n : ℕ) (k : Tok) → Leads t i ks j → length ks ≡ n + 1 → (get_or ks n k).kind ≡ Op → (0 < j) × SignsFrom t j
after_tokens t i j [] n k lead size is = absurd (omega arith)
after_tokens t i j (x ∷ []) zero k lead size is = subst (λ (m : ℕ). (0 < m) × SignsFrom t m) lead.2 (omega (arith, lead.1.before), signs_after t i x.end x.kind is lead.1)
after_tokens t i j (x ∷ []) (suc n) k lead size is = absurd (omega arith)
after_tokens t i j (x ∷ y ∷ ks) zero k lead size is = absurd (omega arith)
after_tokens t i j (x ∷ y ∷ ks) (suc n) k lead size is = after_tokens t x.end j (y ∷ ks) n k lead.2 (omega arith) is

sign_not_special : (b : ℕ) → is_sign b ≡ true → is_special b ≡ false
sign_not_special b h = grind (arith, nat_tests)

sign_op : (b : ℕ) → is_sign b ≡ true → is_op b ≡ true
sign_op b h = grind (arith, nat_tests)

none_more : (run : Text) (n : ℕ) → n + 1 ≡ suc n → suc n ≤ length run → list_any is_special (take n run) ≡ false → is_special (get_or run n 0) ≡ false → list_any is_special (take (suc n) run) ≡ false
none_more run n e h none here = ap (λ (m : ℕ). list_any is_special (take m run)) (sym e) ∙ list_any_more is_special run n 0 h ∙ (λ i. none i || here i)

none_special : (run : Text) (n : ℕ) → n ≤ length run → ((k : ℕ) → k < length run → is_sign (get_or run k 0) ≡ true) → list_any is_special (take n run) ≡ false
none_special run zero h signs = refl
none_special run (suc n) h signs = none_more run n (add-one n) h (none_special run n (omega arith) signs) (sign_not_special (get_or run n 0) (signs n h))

one_sign : (run : Text) → 0 < length run → ((k : ℕ) → k < length run → is_sign (get_or run k 0) ≡ true) → op_len run ≡ 1
one_sign run some signs =
    let none : list_any is_special run ≡ false = ap (list_any is_special) (sym (take-length run)) ∙ none_special run (length run) (omega arith) signs in
    let all : suffix_len is_sign run ≡ length run - 0 = suffix_len_is is_sign run 0 0 (omega arith) (λ k _ h. signs k h) (λ h. absurd (omega arith)) in
    (λ i. if none i then length run else max 1 (length run - all i)) ∙ omega arith

neither : (x y : Bool) → x || y ≡ false → (x ≡ false) × (y ≡ false)
neither true y h = cc
neither false y h = (refl, h)

-- the order of the kinds where b is the first byte
abbrev kind_at : Text → ℕ → Bool → Bool → Bool → Bool → TokKind
kind_at z b blank line block comment =
    if blank then Blank
    else (if line then LineComment
    else (if block then BlockComment
    else (if b == 39 || (is_prefix b && get_or z 1 0 == 39) || ((b == 117 || b == 85) && get_or z 1 0 == 38 && get_or z 2 0 == 39) then Str
    else (if (b == 117 || b == 85) && get_or z 1 0 == 38 && get_or z 2 0 == 34 then UName
    else (if b == 34 then Quoted
    else (if b == 36 && not (is_ascii_digit (get_or z 1 0)) && get_or z (delimiter_len z - 1) 0 == 36 then Dollar
    else (if b == 36 && is_ascii_digit (get_or z 1 0) then Param
    else (if is_ascii_digit b || (b == 46 && is_ascii_digit (get_or z 1 0)) then Number
    else (if begins_word b then Word
    else (if is_op b && not comment then Op
    else (if is_punct b then Punct
    else Other)))))))))))

no_blank : (s : Bool) (z : Text) → is_blank (get_or z 0 0) ≡ false → (get_or z 0 0 == 239) ≡ false → begins_blank s z ≡ false
no_blank true z p q = λ i. p i || (true && (q i && get_or z 1 0 == 187 && get_or z 2 0 == 191))
no_blank false z p q = λ i. p i || false

sign_is : (b : ℕ) → is_sign b ≡ true → (b ≡ 43) ⊎ (b ≡ 45)
sign_is b h = elim (cases_eq b 43) [ inl plus ↦ inl plus | inr other ↦ inr (grind (arith, nat_tests)) ]

sign_kind : (s : Bool) (z : Text) → begins_sign z ≡ true → kind_of s z ≡ Op
sign_kind s z h =
    let parts = and_parts (is_sign (get_or z 0 0)) (not (begins_comment (get_or z 0 0) (get_or z 1 0))) h in
    let comment = not-true (begins_comment (get_or z 0 0) (get_or z 1 0)) parts.1 in
    let marks = neither (begins_line z) (opens z 0) comment in
    elim (sign_is (get_or z 0 0) parts.0) [
      | inl e ↦ (λ i. kind_at z (e i) (no_blank s z (ap is_blank e) (ap (λ (b : ℕ). b == 239) e) i) (marks.0 i) (marks.1 i) (comment i))
      | inr e ↦ (λ i. kind_at z (e i) (no_blank s z (ap is_blank e) (ap (λ (b : ℕ). b == 239) e) i) (marks.0 i) (marks.1 i) (comment i))
    ]

begins_sign-first : (z : Text) → begins_sign z ≡ true → runs_over Op z 0 ≡ true
begins_sign-first z h =
    let parts = and_parts (is_sign (get_or z 0 0)) (not (begins_comment (get_or z 0 0) (get_or z 1 0))) h in
    λ i. sign_op (get_or z 0 0) parts.0 i && parts.1 i

goes_further : (t : Text) (i e : ℕ) → i < length t → runs_over Op (drop i t) 0 ≡ true → Signs t i e → i < e
goes_further t i e within first s = elim (cases_eq i e) [
  | inl same ↦ (let stops : runs_over Op t i ≡ false = ap (λ (m : ℕ). runs_over Op t m) same ∙ s.stops (omega arith) in
      absurd (false≢true (sym stops ∙ sym (runs_drop t i 0 i (omega arith)) ∙ first)))
  | inr other ↦ omega (arith, s.begun)
]

-- a sign there is a token
pub sign_at : (t : Text) (i : ℕ) → 0 < i → i < length t → begins_sign (drop i t) ≡ true → SignsFrom t i → At t i Op (i + 1)
sign_at t i some within h (e, s) =
    let first = begins_sign-first (drop i t) h in
    let more : i < e = goes_further t i e within first s in
    let small : e - i ≤ length (drop i t) = omega (arith, length-drop i t, s.within) in
    at_place t i 1 Op {z = drop i t} refl (omega arith) (omega arith) (sym (sign_kind (i == 0) (drop i t) h)) (record {
      run = e - i;
      is_run = record {
        begun = omega arith;
        within = small;
        each = λ n from to. runs_drop t i n (i + n) refl ∙ s.runs (i + n) (omega arith) (omega arith);
        stops = λ less.
            let place : i + (e - i) ≡ e = omega arith in
            runs_drop t i (e - i) e place ∙ s.stops (omega (arith, length-drop i t));
      };
      length = sym (one_sign (take (e - i) (drop i t)) (omega (arith, length-take-le (e - i) (drop i t) small)) (λ k h.
          let size = length-take-le (e - i) (drop i t) small in
          let inside : k < e - i = omega arith in
          ap is_sign (get_or-take (e - i) (drop i t) k 0 inside) ∙ ap is_sign (drop_at t i k (i + k) refl) ∙ s.signs (i + k) (omega arith) (omega arith)));
    })
