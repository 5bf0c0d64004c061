-- No word goes on where a mark follows.
use Rattle.std.proofs.Common.{◌≡◌, inl, inr, length-drop, append_assoc, ℕ, ◌+◌, ◌-◌, ◌<◌, Bool, true, false, cond, List, [], ◌∷◌, ◌++◌, length, get_or, drop, sym, refl, ap, ◌∙◌, subst, arith, Option, Some, None}
use Rattle.std.proofs.lemmas.Bool.{false≢true, cases_lt}
use Rattle.std.proofs.lemmas.Bool.Decides.{nat_tests}
use Rattle.std.proofs.lemmas.List.{drop_all, get_or-drop}
use Rattle.std.specs.Prelude.{◌==◌, ◌&&◌, ◌||◌, not}
use Rattle.law_renumber.specs.sql_keyword.declared.words.Keyword.{Keyword}
use Rattle.law_renumber.specs.sql_keyword.Find.{keyword_of}
use Rattle.law_renumber.specs.sql_token.declared.token.Tok.{Tok}
use Rattle.law_renumber.specs.sql_token.declared.token.TokKind.{TokKind}
use Rattle.law_renumber.specs.sql_token.declared.token.TokKind.TheVariants.{Blank, LineComment, BlockComment, Word, Quoted, Number, Op, Punct}
use Rattle.law_renumber.specs.sql_token.declared.terminal.Symbol.{Symbol}
use Rattle.law_renumber.specs.sql_token.declared.terminal.Symbol.TheVariants as s
use Rattle.law_renumber.specs.sql_token.declared.terminal.Terminal.{Terminal}
use Rattle.law_renumber.specs.sql_token.Comment.{opens}
use Rattle.law_renumber.specs.sql_token.Quote.{begins_dollar}
use Rattle.law_renumber.specs.sql_token.Terminal.{symbol_of, word_symbol, is_significant, terminals_from, is_name, is_name_symbol, is_dot, is_dot_symbol}
use Rattle.law_renumber.specs.sql_token.Token.{Text, At, Leads, text_of, kind_of, is_word, is_blank, is_punct, begins_blank, begins_line, begins_str, begins_unicode, begins_param, begins_number, begins_word, begins_op}
use Rattle.law_edit_tokens.specs.Beside.{is_punct_symbol, begins_punct_or_ends, NoWordAfter, ends_with_name, ends_with_name_or_dot, IsLetter, LetterFollows, LetterFollowsDot}
use Rattle.law_edit_tokens.specs.Exchange.{LastKeeps, keeps_before}
use Rattle.law_edit_tokens.specs.Terminals.{term_of}
use Rattle.law_edit_tokens.proofs.Edits.{last_of_list}
use Rattle.law_edit_tokens.proofs.Terminals.{terms_append, one_term}
use Rattle.law_edit_tokens.proofs.KindOf.{kind_by, by_word, by_punct, by_blank}
use Rattle.law_edit_tokens.proofs.After.{leads_split}
use Rattle.law_edit_tokens.proofs.Prefix.{not_first}

by_line : (a b c d e f g h i j l m : Bool) → kind_by a b c d e f g h i j l m ≡ LineComment → b ≡ true
by_line true b c d e f g h i j l m k = cc
by_line false true c d e f g h i j l m k = refl
by_line false false true d e f g h i j l m k = cc
by_line false false false true e f g h i j l m k = cc
by_line false false false false true f g h i j l m k = cc
by_line false false false false false true g h i j l m k = cc
by_line false false false false false false true h i j l m k = cc
by_line false false false false false false false true i j l m k = cc
by_line false false false false false false false false true j l m k = cc
by_line false false false false false false false false false true l m k = cc
by_line false false false false false false false false false false true m k = cc
by_line false false false false false false false false false false false true k = cc
by_line false false false false false false false false false false false false k = cc

by_block : (a b c d e f g h i j l m : Bool) → kind_by a b c d e f g h i j l m ≡ BlockComment → c ≡ true
by_block true b c d e f g h i j l m k = cc
by_block false true c d e f g h i j l m k = cc
by_block false false true d e f g h i j l m k = refl
by_block false false false true e f g h i j l m k = cc
by_block false false false false true f g h i j l m k = cc
by_block false false false false false true g h i j l m k = cc
by_block false false false false false false true h i j l m k = cc
by_block false false false false false false false true i j l m k = cc
by_block false false false false false false false false true j l m k = cc
by_block false false false false false false false false false true l m k = cc
by_block false false false false false false false false false false true m k = cc
by_block false false false false false false false false false false false true k = cc
by_block false false false false false false false false false false false false k = cc

-- ---- the first byte of such a token

blank_byte : (b : ℕ) → (is_blank b || false) ≡ true → is_word b ≡ false
blank_byte b h = grind (arith, nat_tests)

line_byte : (b c : ℕ) → (b == 45 && c == 45) ≡ true → is_word b ≡ false
line_byte b c h = grind (arith, nat_tests)

block_byte : (b c : ℕ) → (b == 47 && c == 42) ≡ true → is_word b ≡ false
block_byte b c h = grind (arith, nat_tests)

punct_byte : (b : ℕ) → is_punct b ≡ true → is_word b ≡ false
punct_byte b h = grind (arith, nat_tests)

blank_none : (z : Text) → Blank ≡ kind_of false z → is_word (get_or z 0 0) ≡ false
blank_none z e =
    blank_byte (get_or z 0 0) (by_blank (begins_blank false z) (begins_line z) (opens z 0) (begins_str z) (begins_unicode 34 z) (get_or z 0 0 == 34) (begins_dollar z) (begins_param z) (begins_number z) (begins_word (get_or z 0 0)) (begins_op z) (is_punct (get_or z 0 0)) (sym e))

line_none : (z : Text) → LineComment ≡ kind_of false z → is_word (get_or z 0 0) ≡ false
line_none z e =
    line_byte (get_or z 0 0) (get_or z 1 0) (by_line (begins_blank false z) (begins_line z) (opens z 0) (begins_str z) (begins_unicode 34 z) (get_or z 0 0 == 34) (begins_dollar z) (begins_param z) (begins_number z) (begins_word (get_or z 0 0)) (begins_op z) (is_punct (get_or z 0 0)) (sym e))

block_none : (z : Text) → BlockComment ≡ kind_of false z → is_word (get_or z 0 0) ≡ false
block_none z e =
    block_byte (get_or z 0 0) (get_or z 1 0) (by_block (begins_blank false z) (begins_line z) (opens z 0) (begins_str z) (begins_unicode 34 z) (get_or z 0 0 == 34) (begins_dollar z) (begins_param z) (begins_number z) (begins_word (get_or z 0 0)) (begins_op z) (is_punct (get_or z 0 0)) (sym e))

punct_none : (z : Text) → Punct ≡ kind_of false z → is_word (get_or z 0 0) ≡ false
punct_none z e =
    punct_byte (get_or z 0 0) (by_punct (begins_blank false z) (begins_line z) (opens z 0) (begins_str z) (begins_unicode 34 z) (get_or z 0 0 == 34) (begins_dollar z) (begins_param z) (begins_number z) (begins_word (get_or z 0 0)) (begins_op z) (is_punct (get_or z 0 0)) (sym e))

-- ---- which tokens are no marks

word_no_mark : (o : Option Keyword) → is_punct_symbol (word_symbol o) ≡ false
word_no_mark None = refl
word_no_mark (Some w) = refl

number_no_mark : (a : Bool) → is_punct_symbol (cond a s.One s.Number) ≡ false
number_no_mark true = refl
number_no_mark false = refl

operator_no_mark : (a b c : Bool) → is_punct_symbol (cond a (cond b s.Equals s.EqualsOperator) (cond c s.Star s.Operator)) ≡ false
operator_no_mark true true c = refl
operator_no_mark true false c = refl
operator_no_mark false b true = refl
operator_no_mark false b false = refl

abbrev next_is : Text → ℕ → Tok → List Tok → Bool
next_is t n l ls = begins_punct_or_ends (cond (is_significant l.kind) (record { symbol = symbol_of l.kind (text_of t l); number = n } ∷ terminals_from t (n + 1) ls) (terminals_from t (n + 1) ls))

no_word : (kind : TokKind) (bs z : Text) (t : Text) (n : ℕ) (ls : List Tok) → kind ≡ kind_of false z →
    begins_punct_or_ends (cond (is_significant kind) (record { symbol = symbol_of kind bs; number = n } ∷ terminals_from t (n + 1) ls) (terminals_from t (n + 1) ls)) ≡ true → is_word (get_or z 0 0) ≡ false
unfolding symbol_of
no_word Blank bs z t n ls e h = blank_none z e
no_word LineComment bs z t n ls e h = line_none z e
no_word BlockComment bs z t n ls e h = block_none z e
no_word Punct bs z t n ls e h = punct_none z e
no_word Word bs z t n ls e h = absurd (false≢true (sym (word_no_mark (keyword_of bs)) ∙ h))
no_word Number bs z t n ls e h = absurd (false≢true (sym (number_no_mark (get_or bs 0 0 == 49 && length bs == 1)) ∙ h))
no_word Op bs z t n ls e h = absurd (false≢true (sym (operator_no_mark (get_or bs 0 0 == 61) (length bs == 1) (get_or bs 0 0 == 42 && length bs == 1)) ∙ h))
no_word kind bs z t n ls e h = absurd (false≢true h)

zero_none : is_word 0 ≡ false
zero_none = refl

pub no_word_after : NoWordAfter
no_word_after t front k after lexed h =
    let lead = leads_split t 0 (length t) front k after lexed in
    let before = lead.1.1.before in
    by after lead.1.2 (omega arith) h
  where
    by : (after : List Tok) → Leads t k.end after (length t) → 0 < k.end → begins_punct_or_ends (terminals_from t (length front + 1) after) ≡ true → is_word (get_or (drop k.end t) 0 0) ≡ false
    by [] lead some h = ap (λ (x : Text). is_word (get_or x 0 0)) (drop_all k.end t (omega (arith, lead)))
    by (l ∷ ls) lead some h =
        let here = lead.1 in
        let flag = not_first k.end some in
        no_word l.kind (text_of t l) (drop k.end t) t (length front + 1) ls (here.kind ∙ (λ i. kind_of (flag i) (drop k.end t))) h

-- ---- before a token

word_byte : (b : ℕ) → begins_word b ≡ true → is_word b ≡ true
word_byte b h = grind (arith, nat_tests)

word_first : (s : Bool) (z : Text) → Word ≡ kind_of s z → is_word (get_or z 0 0) ≡ true
word_first s z e =
    word_byte (get_or z 0 0) (by_word (begins_blank s z) (begins_line z) (opens z 0) (begins_str z) (begins_unicode 34 z) (get_or z 0 0 == 34) (begins_dollar z) (begins_param z) (begins_number z) (begins_word (get_or z 0 0)) (begins_op z) (is_punct (get_or z 0 0)) (sym e))

-- the last byte of a word
word_last : (t : Text) (i j : ℕ) → At t i Word j → is_word (get_or t (j - 1) 0) ≡ true
word_last t i j here =
    let before = here.before in
    let place : i + (j - 1 - i) ≡ j - 1 = omega arith in
    let byte : get_or (drop i t) (j - 1 - i) 0 ≡ get_or t (j - 1) 0 = get_or-drop i t (j - 1 - i) 0 ∙ ap (λ (x : ℕ). get_or t x 0) place in
    elim (cases_lt i (j - 1)) [
      | inl more ↦ sym (ap is_word byte) ∙ here.takes.each (j - 1 - i) (omega arith) (omega arith)
      | inr one ↦ (let zero : j - 1 - i ≡ 0 = omega arith in sym (ap is_word byte) ∙ ap (λ (x : ℕ). is_word (get_or (drop i t) x 0)) zero ∙ word_first (i == 0) (drop i t) here.kind)
    ]

feed : (b : ℕ) → not (b == 10) ≡ false → is_blank b ≡ true
feed b h = grind (arith, nat_tests)

-- a line comment is followed by a line feed, or nothing
line_next : (t : Text) (i j : ℕ) → At t i LineComment j → j < length t → is_blank (get_or (drop j t) 0 0) ≡ true
line_next t i j here some =
    let before = here.before in
    let place : i + (j - i) ≡ j = omega arith in
    let zero : j + 0 ≡ j = omega arith in
    let byte : get_or (drop i t) (j - i) 0 ≡ get_or (drop j t) 0 0 = get_or-drop i t (j - i) 0 ∙ ap (λ (x : ℕ). get_or t x 0) (place ∙ sym zero) ∙ sym (get_or-drop j t 0 0) in
    let size = length-drop i t in
    ap is_blank (sym byte) ∙ feed (get_or (drop i t) (j - i) 0) (here.takes.stops (omega arith))

blank_kind_is : (z : Text) → is_blank (get_or z 0 0) ≡ true → kind_of false z ≡ Blank
blank_kind_is z h = λ x. kind_by (h x || false) (begins_line z) (opens z 0) (begins_str z) (begins_unicode 34 z) (get_or z 0 0 == 34) (begins_dollar z) (begins_param z) (begins_number z) (begins_word (get_or z 0 0)) (begins_op z) (is_punct (get_or z 0 0))

-- all but the last token, and that one
record LastTok (front : List Tok) : Type 0 where
  pub before : List Tok
  pub last : Tok
  pub parts : front ≡ before ++ last ∷ []

last_tok : (k : Tok) (ks : List Tok) → LastTok (k ∷ ks)
last_tok k [] = record { before = []; last = k; parts = refl }
last_tok k (l ∷ ls) = let r = last_tok l ls in record { before = k ∷ r.before; last = r.last; parts = ap (λ (x : List Tok). k ∷ x) r.parts }

ends_is : (xs : List Terminal) (t : Terminal) → ends_with_name_or_dot (xs ++ t ∷ []) ≡ (is_name t || is_dot t)
ends_is [] t = refl
ends_is (x ∷ []) t = refl
ends_is (x ∷ y ∷ xs) t = ends_is (y ∷ xs) t

abbrev is_part_symbol : Symbol → Bool
is_part_symbol x = is_name_symbol x || is_dot_symbol x

number_no_name : (a : Bool) → is_part_symbol (cond a s.One s.Number) ≡ false
number_no_name true = refl
number_no_name false = refl

operator_no_name : (a b c : Bool) → is_part_symbol (cond a (cond b s.Equals s.EqualsOperator) (cond c s.Star s.Operator)) ≡ false
operator_no_name true true c = refl
operator_no_name true false c = refl
operator_no_name false b true = refl
operator_no_name false b false = refl

keeps : (kind : TokKind) (t : Text) (i j : ℕ) (bs : Text) (b : ℕ) → At t i kind j → (kind ≡ LineComment → ⊥) → (is_significant kind ≡ true → is_part_symbol (symbol_of kind bs) ≡ true) →
    is_word (get_or t (j - 1) 0) ≡ false → IsLetter b → keeps_before kind b ≡ true
unfolding symbol_of
keeps Blank t i j bs b here line name none l = ap not l.blank
keeps LineComment t i j bs b here line name none l = absurd (line refl)
keeps BlockComment t i j bs b here line name none l = refl
keeps Quoted t i j bs b here line name none l = ap not l.quote
keeps Punct t i j bs b here line name none l = ap not l.digit
keeps Word t i j bs b here line name none l = absurd (false≢true (sym none ∙ word_last t i j here))
keeps Number t i j bs b here line name none l = absurd (false≢true (sym (number_no_name (get_or bs 0 0 == 49 && length bs == 1)) ∙ name refl))
keeps Op t i j bs b here line name none l = absurd (false≢true (sym (operator_no_name (get_or bs 0 0 == 61) (length bs == 1) (get_or bs 0 0 == 42 && length bs == 1)) ∙ name refl))
keeps kind t i j bs b here line name none l = absurd (false≢true (name refl))

pub letter_follows_dot : LetterFollowsDot
unfolding is_name is_dot
letter_follows_dot t [] k after b lexed significant name none l = tt
letter_follows_dot t (x ∷ front) k after b lexed significant name none l =
    let r = last_tok x front in
    let whole : (x ∷ front) ++ k ∷ after ≡ r.before ++ r.last ∷ k ∷ after = ap (λ (y : List Tok). y ++ k ∷ after) r.parts ∙ append_assoc r.before (r.last ∷ []) (k ∷ after) in
    let lead = leads_split t 0 (length t) r.before r.last (k ∷ after) (subst (λ (y : List Tok). Leads t 0 y (length t)) whole lexed) in
    let here = lead.1.1 in
    let next = lead.1.2.1 in
    let start : k.start ≡ r.last.end = lead.1.2.0 in
    let before = here.before in
    let further = next.before in
    let within = next.within in
    let flag = not_first r.last.end (omega arith) in
    let line : r.last.kind ≡ LineComment → ⊥ =
    (λ e. let feed = line_next t r.last.start r.last.end (at_line here lead.1.0 e) (omega arith) in
    let blank : k.kind ≡ Blank = next.kind ∙ (λ i. kind_of (flag i) (drop r.last.end t)) ∙ blank_kind_is (drop r.last.end t) feed in
    false≢true (sym (ap is_significant blank) ∙ significant)) in
    subst (λ (y : List Tok). LastKeeps y b) (sym r.parts)
    (last_of_list r.before r.last b
    (keeps r.last.kind t r.last.start r.last.end (text_of t r.last) b (subst (λ (y : ℕ). At t y r.last.kind r.last.end) (sym lead.1.0) here) line
    (λ h. sym (ends_is (terminals_from t 0 r.before) (term_of t (0 + length r.before) r.last)) ∙ ap ends_with_name_or_dot (sym (terms_append t 0 r.before (r.last ∷ []) ∙ ap (λ (y : List Terminal). terminals_from t 0 r.before ++ y) (one_term t (0 + length r.before) r.last h)) ∙ ap (λ (y : List Tok). terminals_from t 0 y) (sym r.parts)) ∙ name)
    (ap (λ (y : ℕ). is_word (get_or t (y - 1) 0)) (sym start) ∙ none) l))
  where
    at_line : {i j : ℕ} {kind : TokKind} {e : ℕ} → At t i kind j → e ≡ i → kind ≡ LineComment → At t e LineComment j
    at_line {i} {j} {kind} {e} here p q = subst (λ (y : ℕ). At t y LineComment j) (sym p) (subst (λ (y : TokKind). At t i y j) q here)

pub name_or_dot : (ts : List Terminal) → ends_with_name ts ≡ true → ends_with_name_or_dot ts ≡ true
name_or_dot [] h = refl
name_or_dot (t ∷ []) h = ap (λ (b : Bool). b || is_dot t) h
name_or_dot (t ∷ u ∷ ts) h = name_or_dot (u ∷ ts) h

pub letter_follows : LetterFollows
letter_follows t front k after b lexed significant name none l = letter_follows_dot t front k after b lexed significant (name_or_dot (terminals_from t 0 front) name) none l
