-- A token stays where another text has the same bytes up to where the next token ends, and that token stays.
use Rattle.std.proofs.Common.{◌≡◌, ◌⊎◌, inl, inr, ℕ, ◌+◌, ◌-◌, ◌<◌, ◌≤◌, Bool, true, false, length, get_or, sym, refl, ap, ◌∙◌, subst, arith}
use Rattle.std.proofs.lemmas.Bool.{cases_lt, cases_Bool, false≢true}
use Rattle.std.proofs.lemmas.Bool.Decides.{nat_tests}
use Rattle.std.specs.Prelude.{◌==◌, ◌&&◌, ◌||◌, not, if◌then◌else◌}
use Rattle.std.specs.Char.{is_ascii_digit}
use Rattle.law_renumber.specs.sql_token.declared.token.TokKind.{TokKind}
use Rattle.law_renumber.specs.sql_token.declared.token.TokKind.TheVariants.{Blank, LineComment, BlockComment, Word, Quoted, Str, UName, Dollar, Param, Number, Op, Punct, Other}
use Rattle.law_renumber.specs.sql_token.Quote.{IsQuoted, begins_dollar}
use Rattle.law_renumber.specs.sql_token.Token.{Text, runs_over, is_blank, is_word, is_op, is_in_number, is_prefix, is_e, begins_byte_order_mark, begins_str, begins_unicode, begins_word, begins_comment, goes_on, kind_of, blank_from, str_body, IsRun, Takes}
use Rattle.law_renumber.proofs.of_sql_token.Ahead.{Agree}
use Rattle.law_edit_tokens.proofs.Same.{comment_same, quoted_same, dollar_same}
use Rattle.law_edit_tokens.proofs.KindOf.{word_kind_is, kind_same, mark_same, unicode_same, no_amp}

-- The first m bytes are the same, one more than the n of a token, and two more where the next one is an operator's.
pub record Near (z y : Text) (n m : ℕ) : Type 0 where
  pub agree : Agree z y m
  pub next : n + 1 ≤ m
  pub calm : (is_op (get_or z n 0) ≡ false) ⊎ (n + 2 ≤ m)

-- ---- runs

runs_same : (k : TokKind) (z y : Text) (m i : ℕ) → Agree z y m → i + 1 < m → runs_over k z i ≡ runs_over k y i
runs_same Blank z y m i a h = ap is_blank (a.same i (omega arith))
runs_same LineComment z y m i a h = ap (λ (b : ℕ). not (b == 10)) (a.same i (omega arith))
runs_same Word z y m i a h = ap is_word (a.same i (omega arith))
runs_same Param z y m i a h = ap is_ascii_digit (a.same i (omega arith))
runs_same Number z y m i a h =
    let before = a.same (i - 1) (omega arith) in
    let now = a.same i (omega arith) in
    let after = a.same (i + 1) h in
    λ x. goes_on (before x) (now x) (after x)
runs_same Op z y m i a h =
    let now = a.same i (omega arith) in
    let after = a.same (i + 1) h in
    λ x. is_op (now x) && not (begins_comment (now x) (after x))
runs_same _ z y m i a h = refl

-- a sign is an operator's
no_sign : (before b after : ℕ) → is_op b ≡ false → goes_on before b after ≡ is_in_number b
no_sign before b after h = grind (arith, nat_tests)

stops_near : (k : TokKind) → (k ≡ Op → ⊥) → (z y : Text) (n m : ℕ) → Near z y n m → runs_over k z n ≡ runs_over k y n
stops_near Blank other z y n m h = ap is_blank (h.agree.same n (let next = h.next in omega arith))
stops_near LineComment other z y n m h = ap (λ (b : ℕ). not (b == 10)) (h.agree.same n (let next = h.next in omega arith))
stops_near Word other z y n m h = ap is_word (h.agree.same n (let next = h.next in omega arith))
stops_near Param other z y n m h = ap is_ascii_digit (h.agree.same n (let next = h.next in omega arith))
stops_near Number other z y n m h =
    elim h.calm [
      | inl calm ↦
          let now = h.agree.same n (let next = h.next in omega arith) in
          no_sign (get_or z (n - 1) 0) (get_or z n 0) (get_or z (n + 1) 0) calm
          ∙ ap is_in_number now
          ∙ sym (no_sign (get_or y (n - 1) 0) (get_or y n 0) (get_or y (n + 1) 0) (sym (ap is_op now) ∙ calm))
      | inr far ↦ runs_same Number z y m n h.agree (omega arith)
    ]
stops_near Op other z y n m h = absurd (other refl)
stops_near _ other z y n m h = refl

run_near : (k : TokKind) → (k ≡ Op → ⊥) → (z y : Text) (from n m : ℕ) → Near z y n m → IsRun k z from n → IsRun k y from n
run_near k other z y from n m h run =
    let next = h.next in let here = h.agree.here in let there = h.agree.there in
    record {
      begun = run.begun;
      within = omega arith;
      each = λ i low high. sym (runs_same k z y m i h.agree (omega arith)) ∙ run.each i low high;
      stops = λ _. sym (stops_near k other z y n m h) ∙ run.stops (omega arith);
    }

-- ---- a byte order mark

pub is_mark : (s : Bool) (b c d : ℕ) → (s && (b == 239 && c == 187 && d == 191)) ≡ true → (b ≡ 239) × (c ≡ 187) × (d ≡ 191)
is_mark s b c d h = grind (arith, nat_tests)

pub mark_blank : (s : Bool) (z : Text) → (s && begins_byte_order_mark z) ≡ true → kind_of s z ≡ Blank
mark_blank s z mark = by (is_blank (get_or z 0 0)) (s && begins_byte_order_mark z) mark _
  where
    by : (p a : Bool) → a ≡ true → (rest : TokKind) → (if p || a then Blank else rest) ≡ Blank
    by true a e rest = refl
    by false a e rest = λ x. if e x then Blank else rest

pub three : (s : Bool) (z : Text) (n : ℕ) → (s && begins_byte_order_mark z) ≡ true → IsRun Blank z (blank_from s z) n → 3 ≤ n
three s z n mark run =
    let from : blank_from s z ≡ 3 = λ x. if mark x then 3 else 1 in
    let begun = run.begun in
    omega arith

-- in z, where the token has one byte
one_unmarked : (s : Bool) (k : TokKind) (z : Text) (n : ℕ) → n ≤ 1 → k ≡ kind_of s z → Takes s k z n → (s && begins_byte_order_mark z) ≡ false
one_unmarked s k z n one kind takes =
    elim (cases_Bool (s && begins_byte_order_mark z)) [
      | inl mark ↦
          let few = three s z n mark (subst (λ (x : TokKind). Takes s x z n) (kind ∙ mark_blank s z mark) takes) in
          absurd (omega arith)
      | inr none ↦ none
    ]

str_high : (b c d : ℕ) → b ≡ 239 → (b == 39 || (is_prefix b && c == 39) || ((b == 117 || b == 85) && c == 38 && d == 39)) ≡ false
str_high b c d h = grind (arith, nat_tests)

unicode_high : (b c d : ℕ) → b ≡ 239 → ((b == 117 || b == 85) && c == 38 && d == 34) ≡ false
unicode_high b c d h = grind (arith, nat_tests)

-- in another text that has two of its bytes
other_unmarked : (s : Bool) (k : TokKind) (z y : Text) → 1 < length z → get_or z 0 0 ≡ get_or y 0 0 → get_or z 1 0 ≡ get_or y 1 0 →
    k ≡ kind_of s z → Takes s k z 1 → (s && begins_byte_order_mark y) ≡ false
other_unmarked s k z y some b c kind takes =
    elim (cases_Bool (s && begins_byte_order_mark y)) [
      | inl mark ↦
          let bytes = is_mark s (get_or y 0 0) (get_or y 1 0) (get_or y 2 0) mark in
          let first : get_or z 0 0 ≡ 239 = b ∙ bytes.0 in
          let second : get_or z 1 0 ≡ 187 = c ∙ bytes.1 in
          let none = one_unmarked s k z 1 (omega arith) kind takes in
          let str : begins_str z ≡ false = str_high (get_or z 0 0) (get_or z 1 0) (get_or z 2 0) first in
          let unicode : begins_unicode 34 z ≡ false = unicode_high (get_or z 0 0) (get_or z 1 0) (get_or z 2 0) first in
          let told = word_kind_is s z (ap begins_word first) none in
          let word : k ≡ Word = kind ∙ told ∙ (λ x. if str x then Str else (if unicode x then UName else Word)) in
          let run : IsRun Word z 1 1 = subst (λ (x : TokKind). Takes s x z 1) word takes in
          absurd (false≢true (sym (run.stops some) ∙ ap is_word second))
      | inr none ↦ none
    ]

-- ---- the kind, and all kinds but operators

mark_near : (s : Bool) (k : TokKind) (z y : Text) (n m : ℕ) → Near z y n m → 0 < n → k ≡ kind_of s z → Takes s k z n → (s && begins_byte_order_mark z) ≡ (s && begins_byte_order_mark y)
mark_near s k z y n m h some kind takes =
    let next = h.next in let here = h.agree.here in
    elim (cases_lt 2 m) [
      | inl far ↦ ap (λ (x : Bool). s && x) (mark_same s z y (h.agree.same 0 (omega arith)) (h.agree.same 1 (omega arith)) (h.agree.same 2 far))
      | inr few ↦
          let one : n ≡ 1 = omega arith in
          one_unmarked s k z n (omega arith) kind takes
          ∙ sym (other_unmarked s k z y (omega arith) (h.agree.same 0 (omega arith)) (h.agree.same 1 (omega arith)) kind (subst (λ (x : ℕ). Takes s k z x) one takes))
    ]

unicode_near : (quote : ℕ) (z y : Text) (n m : ℕ) → Near z y n m → 0 < n → begins_unicode quote z ≡ begins_unicode quote y
unicode_near quote z y n m h some =
    let next = h.next in
    elim (cases_lt 2 m) [
      | inl far ↦ unicode_same quote z y (h.agree.same 0 (omega arith)) (h.agree.same 1 (omega arith)) (h.agree.same 2 far)
      | inr few ↦
          elim h.calm [
            | inl calm ↦
                let one : n ≡ 1 = omega arith in
                let quiet : is_op (get_or z 1 0) ≡ false = subst (λ (x : ℕ). is_op (get_or z x 0) ≡ false) one calm in
                no_amp quote z quiet ∙ sym (no_amp quote y (sym (ap is_op (h.agree.same 1 (omega arith))) ∙ quiet))
            | inr far ↦ absurd (omega arith)
          ]
    ]

pub kind_near : (s : Bool) (k : TokKind) (z y : Text) (n m : ℕ) → Near z y n m → 0 < n → k ≡ kind_of s z → Takes s k z n → begins_dollar z ≡ begins_dollar y → kind_of s z ≡ kind_of s y
kind_near s k z y n m h some kind takes dollar =
    let next = h.next in
    kind_same s z y (h.agree.same 0 (omega arith)) (h.agree.same 1 (omega arith)) (mark_near s k z y n m h some kind takes) (unicode_near 39 z y n m h some) (unicode_near 34 z y n m h some) dollar

str_same : (z y : Text) → get_or z 0 0 ≡ get_or y 0 0 → get_or z 1 0 ≡ get_or y 1 0 → str_body z ≡ str_body y
str_same z y b c = λ x. if b x == 39 then 1 else (if c x == 39 then 2 else 3)

pub takes_near : (s : Bool) (k : TokKind) → (k ≡ Op → ⊥) → (z y : Text) (n m : ℕ) → Near z y n m → 0 < n → k ≡ kind_of s z → Takes s k z n → Takes s k y n
takes_near s Blank other z y n m h some kind takes =
    let mark = mark_near s Blank z y n m h some kind takes in
    let from : blank_from s z ≡ blank_from s y = λ x. if mark x then 3 else 1 in
    subst (λ (x : ℕ). IsRun Blank y x n) from (run_near Blank other z y _ n m h takes)
takes_near s LineComment other z y n m h some kind takes = run_near LineComment other z y 1 n m h takes
takes_near s BlockComment other z y n m h some kind takes = let next = h.next in comment_same z y m h.agree takes (omega arith)
takes_near s Str other z y n m h some kind takes =
    let next = h.next in
    let b = h.agree.same 0 (omega arith) in
    let c = h.agree.same 1 (omega arith) in
    let moved = quoted_same 39 (is_e (get_or z 0 0)) z y (str_body z) m n h.agree (omega arith) takes in
    subst (λ (x : ℕ). IsQuoted 39 (is_e (get_or y 0 0)) y x n) (str_same z y b c) (subst (λ (x : ℕ). IsQuoted 39 (is_e x) y (str_body z) n) b moved)
takes_near s UName other z y n m h some kind takes = let next = h.next in quoted_same 34 false z y 3 m n h.agree (omega arith) takes
takes_near s Quoted other z y n m h some kind takes = let next = h.next in quoted_same 34 false z y 1 m n h.agree (omega arith) takes
takes_near s Dollar other z y n m h some kind takes = let next = h.next in dollar_same z y m n h.agree (omega arith) takes
takes_near s Param other z y n m h some kind takes = run_near Param other z y 1 n m h takes
takes_near s Number other z y n m h some kind takes = run_near Number other z y 1 n m h takes
takes_near s Word other z y n m h some kind takes = run_near Word other z y 1 n m h takes
takes_near s Op other z y n m h some kind takes = absurd (other refl)
takes_near s Punct other z y n m h some kind takes = takes
takes_near s Other other z y n m h some kind takes = takes
