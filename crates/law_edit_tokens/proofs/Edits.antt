-- The edits of fixes keep all other tokens.
use Rattle.std.proofs.Common.{◌≡◌, inl, inr, ℕ, ◌+◌, ◌-◌, ◌<◌, ◌≤◌, Bool, true, false, List, [], ◌∷◌, ◌++◌, length, get_or, drop, length-drop, length-append, append-nil, sym, refl, ap, ◌∙◌, subst, arith}
use Rattle.std.proofs.lemmas.Bool.{cases_lt, cases_eq, cases_Bool, and_parts, not-false, false≢true}
use Rattle.std.proofs.lemmas.Bool.Decides.{nat_tests}
use Rattle.std.proofs.lemmas.Grind.{common_steps}
use Rattle.std.proofs.lemmas.List.{get_or-drop}
use Rattle.std.specs.Prelude.{◌==◌, ◌&&◌, not, if◌then◌else◌, nat_le, nat_lt, codes}
use Rattle.law_renumber.specs.sql_token.declared.token.Tok.{Tok}
use Rattle.law_renumber.specs.sql_token.declared.token.TokKind.{TokKind}
use Rattle.law_renumber.specs.sql_token.declared.token.TokKind.TheVariants.{Blank, LineComment, BlockComment, Word, Quoted, Str, UName, Dollar, Param, Number, Op, Punct, Other}
use Rattle.law_renumber.specs.sql_token.Quote.{Items, quoted_item}
use Rattle.law_renumber.specs.sql_token.Quote.Items.{none as no_items, more}
use Rattle.law_renumber.specs.sql_token.Terminal.{is_significant}
use Rattle.law_renumber.specs.sql_token.Token.{Text, At, Leads, begins_byte_order_mark, is_blank, is_word}
use Rattle.law_edit_tokens.specs.Exchange.{exchanged, made_text, LastKeeps, keeps_before, Fits, IsTokenBefore, IsPlainWord}
use Rattle.law_edit_tokens.specs.Edits.{concurrently_made, ConcurrentlyRereads, WordRereads, set_made, IsEnding, all_quiet, SetRereads, WordEnds, LastOfList}
use Rattle.law_edit_tokens.proofs.Same.{quoted_by, within_le}
use Rattle.law_edit_tokens.proofs.Near.{mark_blank}
use Rattle.law_edit_tokens.proofs.Made.{word_fits, blank_fits, blank_kind}
use Rattle.law_edit_tokens.proofs.After.{first_is_free, at_unstarted, exchanged_after}
use Rattle.law_edit_tokens.proofs.Last.{made_rereads}

-- ---- CONCURRENTLY

concurrently_word : IsPlainWord (codes "concurrently")
concurrently_word = record { bytes = refl; begins = refl; ascii = omega arith; long = omega arith }

concurrently_fits : (s : Bool) (rest : Text) → is_word (get_or rest 0 0) ≡ false → Fits s concurrently_made rest
concurrently_fits s rest ends =
    (blank_fits s (codes " ") (codes "concurrently" ++ rest) refl (omega arith) refl, (word_fits false (codes "concurrently") rest concurrently_word ends, tt))

pub concurrently_rereads : ConcurrentlyRereads
concurrently_rereads t a front after cut some keeps ends =
    made_rereads t a a front [] after concurrently_made cut keeps (concurrently_fits (a == 0) (drop a t) ends)
    (first_is_free t (made_text concurrently_made) a a front [] after cut some (omega arith))

-- ---- types

first_of : (w rest : Text) → 0 < length w → get_or (w ++ rest) 0 0 ≡ get_or w 0 0
first_of [] rest some = absurd (omega arith)
first_of (x ∷ w) rest some = refl

pub word_rereads : WordRereads
word_rereads t w a b front run after cut low plain keeps ends =
    let long = plain.long in
    let whole : w ++ [] ≡ w = append-nil w in
    let byte : get_or ((w ++ []) ++ drop b t) 0 0 ≡ get_or w 0 0 = ap (λ (x : Text). get_or (x ++ drop b t) 0 0) whole ∙ first_of w (drop b t) (omega arith) in
    made_rereads t a b front run after ((Word, w) ∷ []) cut (subst (λ (x : ℕ). LastKeeps front x) (sym byte) keeps)
    (word_fits (a == 0) w (drop b t) plain ends, tt)
    (first_is_free t (w ++ []) a b front run after cut (omega arith) (omega (arith, length-append w [])))

-- ---- a timeout in front

equals_fits : (rest : Text) → IsTokenBefore false (Op, codes "=") (32 ∷ rest)
equals_fits rest = record {
  some = omega arith;
  kind = refl;
  takes = record {
    run = 1;
    is_run = record { begun = omega arith; within = omega arith; each = λ k one low. absurd (omega arith); stops = λ _. refl };
    length = refl;
  };
}

quoted_plain : (b c : ℕ) (past last : Bool) → past ≡ false → (b == 39) ≡ false → quoted_by 39 false b c past last ≡ 1
unfolding quoted_by
quoted_plain b c past last p q = λ x. if p x then 0 else (if q x then (if c == 39 then 2 else 0) else 1)

plain_item : (z : Text) (i : ℕ) → i < length z → (get_or z i 0 == 39) ≡ false → quoted_item 39 false z i ≡ 1
unfolding quoted_by
plain_item z i low q = quoted_plain (get_or z i 0) (get_or z (i + 1) 0) (nat_le (length z) i) (nat_lt (i + 1) (length z)) (within_le (length z) i low) q

quote_item : (b c : ℕ) (past last : Bool) → (b == 39) ≡ true → (c == 39) ≡ false → quoted_by 39 false b c past last ≡ 0
unfolding quoted_by
quote_item b c true last p q = refl
quote_item b c false last p q = λ x. if p x then (if q x then 2 else 0) else 1

stop_item : (z : Text) (i : ℕ) → (get_or z i 0 == 39) ≡ true → (get_or z (i + 1) 0 == 39) ≡ false → quoted_item 39 false z i ≡ 0
unfolding quoted_by
stop_item z i p q = quote_item (get_or z i 0) (get_or z (i + 1) 0) (nat_le (length z) i) (nat_lt (i + 1) (length z)) p q

one_item : (item : ℕ → ℕ) (i j : ℕ) → item i ≡ 1 → Items item (i + 1) j → Items item i j
one_item item i j e h = more (omega (arith, e)) (subst (λ (x : ℕ). Items item (i + x) j) (sym e) h)

str_fits : (digit : ℕ) (rest : Text) → (digit == 39) ≡ false → IsTokenBefore false (Str, 39 ∷ digit ∷ 115 ∷ 39 ∷ []) (59 ∷ rest)
str_fits digit rest plain =
    let z : Text = 39 ∷ digit ∷ 115 ∷ 39 ∷ 59 ∷ rest in
    record {
      some = omega arith;
      kind = refl;
      takes = record {
        body = 3;
        ends = record {
          items = one_item (quoted_item 39 false z) 1 3 (plain_item z 1 (omega arith) plain)
              (one_item (quoted_item 39 false z) 2 3 (plain_item z 2 (omega arith) refl) no_items);
          stops = stop_item z 3 refl refl;
        };
        closes = refl;
        length = refl;
      };
    }

semicolon_fits : (rest : Text) → IsTokenBefore false (Punct, codes ";") rest
semicolon_fits rest = record { some = omega arith; kind = refl; takes = refl }

set_word : IsPlainWord (codes "set")
set_word = record { bytes = refl; begins = refl; ascii = omega arith; long = omega arith }

blank_first : (w rest : Text) → IsEnding w → is_word (get_or (w ++ rest) 0 0) ≡ false
blank_first [] rest e = let some = e.some in absurd (omega arith)
blank_first (x ∷ w) rest e = not_word x (and_parts _ _ e.blank).0
  where
    not_word : (b : ℕ) → is_blank b ≡ true → is_word b ≡ false
    not_word b h = grind (arith, nat_tests)

word_first : (w rest : Text) → IsPlainWord w → is_blank (get_or (w ++ rest) 0 0) ≡ false
word_first [] rest p = let long = p.long in absurd (omega arith)
word_first (x ∷ w) rest p = not_blank x (and_parts _ _ p.bytes).0
  where
    not_blank : (b : ℕ) → is_word b ≡ true → is_blank b ≡ false
    not_blank b h = grind (arith, nat_tests)

set_fits : (s : Bool) (name ending rest : Text) (digit : ℕ) → IsPlainWord name → (digit == 39) ≡ false → IsEnding ending → is_blank (get_or rest 0 0) ≡ false → Fits s (set_made name digit ending) rest
set_fits s name ending rest digit plain quote end ends = (
  word_fits s (codes "set") _ set_word refl,
  (
    blank_fits false (codes " ") _ refl (omega arith) (word_name name (made_text ((Blank, codes " ") ∷ (Op, codes "=") ∷ (Blank, codes " ") ∷ (Str, 39 ∷ digit ∷ 115 ∷ 39 ∷ []) ∷ (Punct, codes ";") ∷ (Blank, ending) ∷ [])) rest plain),
    (
      word_fits false name _ plain refl,
      (
        blank_fits false (codes " ") _ refl (omega arith) refl,
        (
          equals_fits _,
          (
            blank_fits false (codes " ") _ refl (omega arith) refl,
            (
              str_fits digit _ quote,
              (
                semicolon_fits _,
                (blank_fits false ending rest end.blank end.some ends, tt),
              ),
            ),
          ),
        ),
      ),
    ),
  ),
)
  where
    word_name : (name text rest : Text) → IsPlainWord name → is_blank (get_or ((name ++ text) ++ rest) 0 0) ≡ false
    word_name [] text rest p = let long = p.long in absurd (omega arith)
    word_name (x ∷ name) text rest p = word_first (x ∷ name) [] p

-- ---- the tokens before the first significant one

significant_no_blank : (k : TokKind) → is_significant k ≡ true → k ≡ Blank → ⊥
significant_no_blank k h e = false≢true (sym (ap is_significant e) ∙ h)

feed_blank : (b : ℕ) → is_blank b ≡ false → (b == 10) ≡ false
feed_blank b h = grind (arith, nat_tests)

-- a significant token begins with no blank
no_blank : (t : Text) (a e : ℕ) (k : TokKind) → At t a k e → is_significant k ≡ true → is_blank (get_or (drop a t) 0 0) ≡ false
no_blank t a e k here h =
    elim (cases_Bool (is_blank (get_or (drop a t) 0 0))) [
      | inl blank ↦ absurd (significant_no_blank k h (here.kind ∙ blank_kind (a == 0) ((a == 0) && begins_byte_order_mark (drop a t)) _ (is_blank (get_or (drop a t) 0 0)) blank))
      | inr none ↦ none
    ]

no_mark : (t : Text) (e : ℕ) (k : TokKind) → At t 0 k e → is_significant k ≡ true → begins_byte_order_mark t ≡ false
no_mark t e k here h =
    elim (cases_Bool (begins_byte_order_mark t)) [
      | inl mark ↦ absurd (significant_no_blank k h (here.kind ∙ mark_blank true t mark))
      | inr none ↦ none
    ]

line_ends : (t : Text) (i a : ℕ) → At t i LineComment a → a < length t → is_blank (get_or t a 0) ≡ false → ⊥
line_ends t i a here some none =
    let before = here.before in
    let place : i + (a - i) ≡ a = omega arith in
    let byte : get_or (drop i t) (a - i) 0 ≡ get_or t a 0 = get_or-drop i t (a - i) 0 ∙ ap (λ (x : ℕ). get_or t x 0) place in
    let stops = here.takes.stops (omega (arith, length-drop i t)) in
    let feed : (get_or t a 0 == 10) ≡ true = sym (ap (λ (x : ℕ). x == 10) byte) ∙ not-false (get_or (drop i t) (a - i) 0 == 10) stops in
    false≢true (sym (feed_blank (get_or t a 0) none) ∙ feed)

quiet_keeps : (t : Text) (i a e : ℕ) (k : TokKind) → At t i k e → e ≡ a → a < length t → is_blank (get_or t a 0) ≡ false → not (is_significant k) ≡ true → keeps_before k 115 ≡ true
quiet_keeps t i a e Blank here end some none h = refl
quiet_keeps t i a e BlockComment here end some none h = refl
quiet_keeps t i a e LineComment here end some none h = absurd (line_ends t i a (subst (λ (x : ℕ). At t i LineComment x) end here) some none)
quiet_keeps t i a e Word here end some none h = absurd (false≢true h)
quiet_keeps t i a e Quoted here end some none h = absurd (false≢true h)
quiet_keeps t i a e Str here end some none h = absurd (false≢true h)
quiet_keeps t i a e UName here end some none h = absurd (false≢true h)
quiet_keeps t i a e Dollar here end some none h = absurd (false≢true h)
quiet_keeps t i a e Param here end some none h = absurd (false≢true h)
quiet_keeps t i a e Number here end some none h = absurd (false≢true h)
quiet_keeps t i a e Op here end some none h = absurd (false≢true h)
quiet_keeps t i a e Punct here end some none h = absurd (false≢true h)
quiet_keeps t i a e Other here end some none h = absurd (false≢true h)

quiet_last : (t : Text) (i a : ℕ) (ks : List Tok) → Leads t i ks a → all_quiet ks ≡ true → a < length t → is_blank (get_or t a 0) ≡ false → LastKeeps ks 115
quiet_last t i a [] lead quiet some none = tt
quiet_last t i a (k ∷ []) lead quiet some none = quiet_keeps t i a k.end k.kind lead.1 lead.2 some none (and_parts (not (is_significant k.kind)) true quiet).0
quiet_last t i a (k ∷ l ∷ ks) lead quiet some none = quiet_last t k.end a (l ∷ ks) lead.2 (and_parts (not (is_significant k.kind)) (all_quiet (l ∷ ks)) quiet).1 some none

pub set_rereads : SetRereads
set_rereads t name ending digit a front k after cut quiet significant plain quote end =
    let w : Text = made_text (set_made name digit ending) in
    let here : At t a k.kind k.end = cut.after_run.1 in
    let before = here.before in
    let within = here.within in
    let clear = no_blank t a k.end k.kind here significant in
    let zero : a + 0 ≡ a = omega arith in
    let byte : get_or (drop a t) 0 0 ≡ get_or t a 0 = get_or-drop a t 0 0 ∙ ap (λ (x : ℕ). get_or t x 0) zero in
    made_rereads t a a front [] (k ∷ after) (set_made name digit ending) cut
    (quiet_last t 0 a front cut.until_run quiet (omega arith) (sym (ap is_blank byte) ∙ clear))
    (set_fits (a == 0) name ending (drop a t) digit plain quote end clear)
    (elim (cases_eq a 0) [
      | inr later ↦ first_is_free t w a a front [] (k ∷ after) cut (omega arith) (omega arith)
      | inl start ↦ at_start w (omega (arith, some_text name ending)) start here
    ])
  where
    some_text : (name ending : Text) → 0 < length (made_text (set_made name digit ending))
    some_text name ending = omega arith

    at_start : (w : Text) → 0 < length w → a ≡ 0 → At t a k.kind k.end → At (exchanged t a a w) (a + length w) k.kind (a + length w + (k.end - a))
    at_start w some start here =
        let first : At t 0 k.kind k.end = subst (λ (x : ℕ). At t x k.kind k.end) start here in
        let mark = no_mark t k.end k.kind first significant in
        let low : a ≤ length t = omega arith in
        let same : t ≡ drop (a + length w) (exchanged t a a w) = sym (exchanged_after t w a a low ∙ ap (λ (x : ℕ). drop x t) start) in
        let end : k.end ≡ k.end - a = omega arith in
        subst (λ (x : ℕ). At (exchanged t a a w) (a + length w) k.kind (a + length w + x)) end
        (at_unstarted t (exchanged t a a w) (a + length w) k.end k.kind mark (omega arith) same first)

-- ---- what a word gives by itself

past_zero : (t : Text) (j : ℕ) → length t ≤ j → get_or (drop j t) 0 0 ≡ 0
past_zero t j h = grind (arith, common_steps)

pub word_ends : WordEnds
word_ends t i j here =
    let before = here.before in
    let size = length-drop i t in
    let place : i + (j - i) ≡ j = omega arith in
    let zero : j + 0 ≡ j = omega arith in
    let byte : get_or (drop i t) (j - i) 0 ≡ get_or (drop j t) 0 0 =
    get_or-drop i t (j - i) 0 ∙ ap (λ (x : ℕ). get_or t x 0) (place ∙ sym zero) ∙ sym (get_or-drop j t 0 0) in
    elim (cases_lt j (length t)) [
      | inl some ↦ sym (ap is_word byte) ∙ here.takes.stops (omega arith)
      | inr past ↦ ap is_word (past_zero t j past)
    ]

pub last_of_list : LastOfList
last_of_list [] k b h = h
last_of_list (x ∷ []) k b h = h
last_of_list (x ∷ y ∷ front) k b h = last_of_list (y ∷ front) k b h
