-- The last token before a change stays where the byte that now follows it lets it.
use Rattle.std.proofs.Common.{◌≡◌, inl, inr, ℕ, ◌+◌, ◌-◌, ◌<◌, ◌≤◌, Bool, true, false, List, [], ◌∷◌, ◌++◌, length, get_or, drop, sym, refl, ap, ◌∙◌, subst, arith}
use Rattle.std.proofs.lemmas.Bool.{cases_lt, cases_eq, cases_Bool, or_cases, not-true, false≢true, eqb-true}
use Rattle.std.proofs.lemmas.Bool.Decides.{nat_tests}
use Rattle.std.proofs.lemmas.List.{get_or-drop}
use Rattle.std.specs.Prelude.{◌==◌, ◌&&◌, not, if◌then◌else◌, nat_le, nat_lt}
use Rattle.std.specs.Char.{is_ascii_digit}
use Rattle.law_renumber.specs.sql_token.declared.token.Tok.{Tok}
use Rattle.law_renumber.specs.sql_token.declared.token.TokKind.{TokKind}
use Rattle.law_renumber.specs.sql_token.declared.token.TokKind.TheVariants.{Blank, LineComment, BlockComment, Word, Quoted, Str, UName, Dollar, Param, Number, Op, Punct, Other}
use Rattle.law_renumber.specs.sql_token.Comment.{opens, Comment, comment}
use Rattle.law_renumber.specs.sql_token.Quote.{IsQuoted, quoted_item, begins_dollar, delimiter_len}
use Rattle.law_renumber.specs.sql_token.Token.{Text, At, Leads, kind_of, Takes, begins_byte_order_mark, begins_word, is_blank, is_word, is_punct, IsRun, blank_from}
use Rattle.law_renumber.proofs.of_sql_token.Ahead.{Agree}
use Rattle.law_edit_tokens.specs.Exchange.{exchanged, made_text, made_toks, keeps_before, LastKeeps, LastStays, MadeRereads}
use Rattle.law_edit_tokens.proofs.Same.{agree_drop, comment_same, comment_grows, quoted_by, quoted_item_same, items_same}
use Rattle.law_edit_tokens.proofs.KindOf.{kind_same, mark_same, unicode_same, word_kind_is, word_begun, quoted_begun, punct_begun, blank_begun, quoted_kind, punct_kind}
use Rattle.law_edit_tokens.proofs.Near.{is_mark, mark_blank, three}
use Rattle.law_edit_tokens.proofs.Prefix.{Stays}
use Rattle.law_edit_tokens.proofs.Made.{plain_second, word_bytes, low_unmarked, blank_low, blank_kind, made_lead}
use Rattle.law_edit_tokens.proofs.After.{exchanged_at, exchanged_agrees, leads_within, rereads_after_one}

-- ---- words

word_before : (b : ℕ) → (not (is_word b) && not (b == 39) && not (b == 38)) ≡ true → (is_word b ≡ false) × ((b == 39) ≡ false) × ((b == 38) ≡ false)
word_before b h = by (is_word b) (b == 39) (b == 38) h
  where
    by : (p q r : Bool) → (not p && not q && not r) ≡ true → (p ≡ false) × (q ≡ false) × (r ≡ false)
    by false false false h = (refl, refl, refl)
    by true q r h = cc
    by false true r h = cc
    by false false true h = cc

not_blank_word : (s : Bool) (z : Text) → Word ≡ kind_of s z → (s && begins_byte_order_mark z) ≡ false
not_blank_word s z kind = elim (cases_Bool (s && begins_byte_order_mark z)) [
  | inl mark ↦ no (kind ∙ mark_blank s z mark)
  | inr none ↦ none
]
  where
    no : Word ≡ Blank → (s && begins_byte_order_mark z) ≡ false
    no e = cc

mark_words : (is_word 187 ≡ true) × (is_word 191 ≡ true)
mark_words = (refl, refl)

unmarked : (s : Bool) (z y : Text) (n : ℕ) → Agree z y n → 0 < n → (s && begins_byte_order_mark z) ≡ false → is_word (get_or y n 0) ≡ false → (s && begins_byte_order_mark y) ≡ false
unmarked s z y n a some none ends =
    elim (cases_Bool (s && begins_byte_order_mark y)) [
      | inr h ↦ h
      | inl mark ↦
          let bytes = is_mark s (get_or y 0 0) (get_or y 1 0) (get_or y 2 0) mark in
          elim (cases_lt 2 n) [
            | inl long ↦ sym (ap (λ (x : Bool). s && x) (mark_same s z y (a.same 0 (omega arith)) (a.same 1 (omega arith)) (a.same 2 long))) ∙ none
            | inr short ↦ elim (cases_eq n 1) [
              | inl one ↦ absurd (false≢true (sym ends ∙ ap (λ (x : ℕ). is_word (get_or y x 0)) one ∙ ap is_word bytes.1))
              | inr other ↦ let two : n ≡ 2 = omega arith in absurd (false≢true (sym ends ∙ ap (λ (x : ℕ). is_word (get_or y x 0)) two ∙ ap is_word bytes.2))
            ]
          ]
    ]

last_word : (s : Bool) (z y : Text) (n : ℕ) → Agree z y n → 0 < n → Word ≡ kind_of s z → IsRun Word z 1 n → keeps_before Word (get_or y n 0) ≡ true → Stays s Word z y n
last_word s z y n a some kind run keeps =
    let end = word_before (get_or y n 0) keeps in
    let b = a.same 0 some in
    let there = a.there in
    let word : begins_word (get_or y 0 0) ≡ true = sym (ap begins_word b) ∙ word_begun s z (sym kind) in
    let mark = unmarked s z y n a some (not_blank_word s z kind) end.0 in
    let second : ((get_or y 1 0 == 39) ≡ false) × ((get_or y 1 0 == 38) ≡ false) = elim (cases_lt 1 n) [
      | inl long ↦ word_bytes (get_or y 1 0) (sym (ap is_word (a.same 1 long)) ∙ run.each 1 (omega arith) long)
      | inr short ↦ let one : n ≡ 1 = omega arith in
          subst (λ (x : ℕ). ((get_or y x 0 == 39) ≡ false) × ((get_or y x 0 == 38) ≡ false)) one (end.1, end.2)
    ] in
    let plain = plain_second (get_or y 0 0) (get_or y 1 0) (get_or y 2 0) word second.0 second.1 in
    record {
      kind = sym kind ∙ sym (word_kind_is s y word mark ∙ (λ x. if plain.0 x then Str else (if plain.1 x then UName else Word)));
      takes = record {
        begun = run.begun;
        within = there;
        each = λ k one low. sym (ap is_word (a.same k low)) ∙ run.each k one low;
        stops = λ _. end.0;
      };
    }

-- ---- quoted names

quoted_stop : (quote : ℕ) (escapes : Bool) (b c : ℕ) (past last : Bool) → (b == quote) ≡ true → (c == quote) ≡ false → quoted_by quote escapes b c past last ≡ 0
unfolding quoted_by
quoted_stop quote escapes b c true last p q = refl
quoted_stop quote escapes b c false last p q = λ x. if p x then (if q x then 2 else 0) else (if escapes && b == 92 && last then 2 else 1)

stop_here : (y : Text) (i : ℕ) → (get_or y i 0 == 34) ≡ true → (get_or y (i + 1) 0 == 34) ≡ false → quoted_item 34 false y i ≡ 0
unfolding quoted_by
stop_here y i p q = quoted_stop 34 false (get_or y i 0) (get_or y (i + 1) 0) (nat_le (length y) i) (nat_lt (i + 1) (length y)) p q

last_quoted : (s : Bool) (z y : Text) (n : ℕ) → Agree z y n → 0 < n → Quoted ≡ kind_of s z → IsQuoted 34 false z 1 n → keeps_before Quoted (get_or y n 0) ≡ true → Stays s Quoted z y n
last_quoted s z y n a some kind p keeps =
    let b = a.same 0 some in
    let size = p.length in
    let end : p.body + 1 ≡ n = sym p.length in
    let closes : get_or y p.body 0 ≡ 34 = sym (a.same p.body (omega arith)) ∙ p.closes in
    let next : (get_or y (p.body + 1) 0 == 34) ≡ false = ap (λ (x : ℕ). get_or y x 0 == 34) end ∙ not-true (get_or y n 0 == 34) keeps in
    record {
      kind = sym kind ∙ sym (quoted_kind s y (sym b ∙ eqb-true (get_or z 0 0) 34 (quoted_begun s z (sym kind))));
      takes = record {
        body = p.body;
        ends = record {
          items = items_same _ _ p.ends.items (λ k low. quoted_item_same 34 false z y n k a (omega arith));
          stops = stop_here y p.body (ap (λ (x : ℕ). x == 34) closes) next;
        };
        closes = closes;
        length = size;
      };
    }

-- ---- blanks

last_blank : (s : Bool) (z y : Text) (n : ℕ) → Agree z y n → 0 < n → Blank ≡ kind_of s z → IsRun Blank z (blank_from s z) n → keeps_before Blank (get_or y n 0) ≡ true → Stays s Blank z y n
last_blank s z y n a some kind run keeps =
    elim (cases_Bool (s && begins_byte_order_mark z)) [
      | inl mark ↦
          let long = three s z n mark run in
          let same : (s && begins_byte_order_mark z) ≡ (s && begins_byte_order_mark y) =
          ap (λ (x : Bool). s && x) (mark_same s z y (a.same 0 (omega arith)) (a.same 1 (omega arith)) (a.same 2 (omega arith))) in
          with same (sym kind ∙ sym (mark_blank s y (sym same ∙ mark)))
      | inr none ↦
          let b = a.same 0 some in
          let first : is_blank (get_or z 0 0) ≡ true = elim (or_cases (is_blank (get_or z 0 0)) (s && begins_byte_order_mark z) (blank_begun s z (sym kind))) [
            | inl h ↦ h
            | inr h ↦ absurd (false≢true (sym none ∙ h))
          ] in
          let here : is_blank (get_or y 0 0) ≡ true = sym (ap is_blank b) ∙ first in
          let same : (s && begins_byte_order_mark z) ≡ (s && begins_byte_order_mark y) = none ∙ sym (low_unmarked s (get_or y 0 0) (get_or y 1 0) (get_or y 2 0) (blank_low (get_or y 0 0) here)) in
          with same (sym kind ∙ sym (blank_kind s (s && begins_byte_order_mark y) _ (is_blank (get_or y 0 0)) here))
    ]
  where
    with : (s && begins_byte_order_mark z) ≡ (s && begins_byte_order_mark y) → kind_of s z ≡ kind_of s y → Stays s Blank z y n
    with same kinds =
        let from : blank_from s z ≡ blank_from s y = λ x. if same x then 3 else 1 in
        let there = a.there in
        record {
          kind = kinds;
          takes = subst (λ (x : ℕ). IsRun Blank y x n) from (record {
            begun = run.begun;
            within = there;
            each = λ k one low. sym (ap is_blank (a.same k low)) ∙ run.each k one low;
            stops = λ _. not-true (is_blank (get_or y n 0)) keeps;
          });
        }

-- ---- block comments

opens_slash : (b c : ℕ) → (b == 47 && c == 42) ≡ true → (b == 36) ≡ false
opens_slash b c h = grind (arith, nat_tests)

no_dollar : (z : Text) → (get_or z 0 0 == 36) ≡ false → begins_dollar z ≡ false
no_dollar z h = λ x. h x && not (is_ascii_digit (get_or z 1 0)) && get_or z (delimiter_len z - 1) 0 == 36

comment_opens : (z : Text) {i j : ℕ} → Comment z i j → opens z i ≡ true
comment_opens z (comment o p c e) = o

last_block : (s : Bool) (z y : Text) (n : ℕ) → Agree z y n → BlockComment ≡ kind_of s z → Comment z 0 n → Stays s BlockComment z y n
last_block s z y n a kind p =
    let long = comment_grows z p in
    let b = a.same 0 (omega arith) in
    let c = a.same 1 (omega arith) in
    let d = a.same 2 (omega arith) in
    let slash = opens_slash (get_or z 0 0) (get_or z 1 0) (comment_opens z p) in
    record {
      kind = kind_same s z y b c (ap (λ (x : Bool). s && x) (mark_same s z y b c d)) (unicode_same 39 z y b c d) (unicode_same 34 z y b c d)
          (no_dollar z slash ∙ sym (no_dollar y (sym (ap (λ (x : ℕ). x == 36) b) ∙ slash)));
      takes = comment_same z y n a p (omega arith);
    }

-- ---- punctuation

last_punct : (s : Bool) (z y : Text) (n : ℕ) → Agree z y n → n ≡ 1 → Punct ≡ kind_of s z → keeps_before Punct (get_or y n 0) ≡ true → Stays s Punct z y n
last_punct s z y n a one kind keeps =
    let b = a.same 0 (omega arith) in
    let digit : is_ascii_digit (get_or y 1 0) ≡ false = sym (ap (λ (x : ℕ). is_ascii_digit (get_or y x 0)) one) ∙ not-true (is_ascii_digit (get_or y n 0)) keeps in
    record {
      kind = sym kind ∙ sym (punct_kind s y (sym (ap is_punct b) ∙ punct_begun s z (sym kind)) digit);
      takes = one;
    }

-- ---- all of them

none_keeps : {k : TokKind} {s : Bool} {z y : Text} {n : ℕ} → false ≡ true → Stays s k z y n
none_keeps e = absurd (false≢true e)

last_keeps : (s : Bool) (k : TokKind) (z y : Text) (n : ℕ) → Agree z y n → 0 < n → k ≡ kind_of s z → Takes s k z n → keeps_before k (get_or y n 0) ≡ true → Stays s k z y n
last_keeps s Word z y n a some kind takes keeps = last_word s z y n a some kind takes keeps
last_keeps s Quoted z y n a some kind takes keeps = last_quoted s z y n a some kind takes keeps
last_keeps s Blank z y n a some kind takes keeps = last_blank s z y n a some kind takes keeps
last_keeps s BlockComment z y n a some kind takes keeps = last_block s z y n a kind takes
last_keeps s Punct z y n a some kind takes keeps = last_punct s z y n a takes kind keeps
last_keeps s LineComment z y n a some kind takes keeps = none_keeps keeps
last_keeps s Str z y n a some kind takes keeps = none_keeps keeps
last_keeps s UName z y n a some kind takes keeps = none_keeps keeps
last_keeps s Dollar z y n a some kind takes keeps = none_keeps keeps
last_keeps s Param z y n a some kind takes keeps = none_keeps keeps
last_keeps s Number z y n a some kind takes keeps = none_keeps keeps
last_keeps s Op z y n a some kind takes keeps = none_keeps keeps
last_keeps s Other z y n a some kind takes keeps = none_keeps keeps

keeps_no_op : (k : TokKind) (b : ℕ) → keeps_before k b ≡ true → k ≡ Op → ⊥
keeps_no_op k b keeps e = false≢true (sym (ap (λ (x : TokKind). keeps_before x b) e) ∙ keeps)

last_at : (t u : Text) (i j : ℕ) (k : TokKind) → Agree t u j → At t i k j → keeps_before k (get_or u j 0) ≡ true → At u i k j
last_at t u i j k a here keeps =
    let before = here.before in
    let there = a.there in
    let place : i + (j - i) ≡ j = omega arith in
    let byte : get_or (drop i u) (j - i) 0 ≡ get_or u j 0 = get_or-drop i u (j - i) 0 ∙ ap (λ (x : ℕ). get_or u x 0) place in
    let result = last_keeps (i == 0) k (drop i t) (drop i u) (j - i) (agree_drop t u j i (omega arith) a) (omega arith) here.kind here.takes
    (ap (λ (x : ℕ). keeps_before k x) byte ∙ keeps) in
    record { before = before; within = there; kind = here.kind ∙ result.kind; takes = result.takes }

pub last_stays : (t u : Text) (a i : ℕ) (ks : List Tok) → Agree t u a → Leads t i ks a → LastKeeps ks (get_or u a 0) → LastStays u i ks
last_stays t u a i [] agree lead keeps = tt
last_stays t u a i (k ∷ []) agree lead keeps =
    let here : At t i k.kind a = subst (λ (x : ℕ). At t i k.kind x) lead.2 lead.1 in
    (subst (λ (x : ℕ). At u i k.kind x) (sym lead.2) (last_at t u i a k.kind agree here keeps), keeps_no_op k.kind (get_or u a 0) keeps)
last_stays t u a i (k ∷ l ∷ ks) agree lead keeps = last_stays t u a k.end (l ∷ ks) agree lead.2 keeps

pub made_rereads : MadeRereads
made_rereads t a b front run after ps cut keeps fits first =
    let w : Text = made_text ps in
    let u : Text = exchanged t a b w in
    let low : a ≤ length t = leads_within t 0 a front (omega arith) cut.until_run in
    let at = exchanged_at t w a b low in
    let zero : a + 0 ≡ a = omega arith in
    let byte : get_or u a 0 ≡ get_or (w ++ drop b t) 0 0 =
    ap (λ (x : ℕ). get_or u x 0) (sym zero) ∙ sym (get_or-drop a u 0 0) ∙ ap (λ (x : Text). get_or x 0 0) at in
    rereads_after_one t w a b front run (made_toks a ps) after cut
    (last_stays t u a 0 front (exchanged_agrees t w a b low) cut.until_run (subst (λ (x : ℕ). LastKeeps front x) (sym byte) keeps))
    (made_lead u a ps (drop b t) at fits)
    first
