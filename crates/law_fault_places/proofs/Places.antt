-- Places where a text can't be read are between two characters.
use Rattle.std.proofs.Common.{◌≡◌, ◌+◌, ◌<◌, ◌⊎◌, inl, inr, ℕ, Bool, true, false, arith, get_or, length, refl, subst, sym, drop}
use Rattle.std.specs.Prelude.{if◌then◌else◌, slice_index, ◌==◌}
use Rattle.std.specs.Str.{IsCharBoundary}
use Rattle.std.proofs.lemmas.Bool.{cases_lt}
use Rattle.std.proofs.lemmas.Bool.Decides.{nat_tests}
use Rattle.std.proofs.lemmas.Str.{IsCharBoundary-before_ascii, IsCharBoundary-start}
use Rattle.std.proofs.lemmas.List.{get_or-drop}
use Rattle.std.proofs.Math.ListN.{get_or-eq_default}
use Rattle.sql_tree.proofs.of_sql_token.Boundaries.{token_between}
use Rattle.sql_tree.specs.sql_token.declared.token.Tok.{Tok}
use Rattle.sql_tree.specs.sql_token.declared.token.TokKind.{TokKind}
use Rattle.sql_tree.specs.sql_token.Comment.{opens}
use Rattle.sql_tree.specs.sql_token.Quote.{begins_dollar}
use Rattle.sql_tree.specs.sql_token.Token.{Text, begins_blank, begins_line, begins_number, begins_op, begins_param, begins_str, begins_unicode, begins_word, is_closing, is_punct, kind_of}
use Rattle.sql_tree.specs.Statement.{no_token}
use Rattle.law_fault_places.specs.Between.{OpenBetween, SyntaxBetween}

-- ---- the first byte of a token that closes

-- where a choice closes, so does what was chosen
chosen : (b : Bool) (x y : TokKind) → is_closing (if b then x else y) ≡ true → ((b ≡ true) × (is_closing x ≡ true)) ⊎ (is_closing y ≡ true)
chosen true x y e = inl (refl, e)
chosen false x y e = inr e

-- a kind that closes, where its mark is an ASCII byte, or else a later kind
passed : (b : Bool) (x y : TokKind) (P : Type 0) → (b ≡ true → is_closing x ≡ true → P) → (is_closing y ≡ true → P) → is_closing (if b then x else y) ≡ true → P
passed b x y P here later e = elim (chosen b x y e) [ inl h ↦ here h.0 h.1 | inr h ↦ later h ]

opens_ascii : (z : Text) → opens z 0 ≡ true → slice_index z 0 < 128
opens_ascii z e = grind (arith, nat_tests)

str_ascii : (z : Text) → begins_str z ≡ true → slice_index z 0 < 128
str_ascii z e = grind (arith, nat_tests)

unicode_ascii : (z : Text) → begins_unicode 34 z ≡ true → slice_index z 0 < 128
unicode_ascii z e = grind (arith, nat_tests)

quoted_ascii : (z : Text) → (slice_index z 0 == 34) ≡ true → slice_index z 0 < 128
quoted_ascii z e = grind (arith, nat_tests)

dollar_ascii : (z : Text) → begins_dollar z ≡ true → slice_index z 0 < 128
dollar_ascii z e = grind (arith, nat_tests)

not_closing : {P : Type 0} → false ≡ true → P
not_closing e = absurd (cc)

first_ascii : (s : Bool) (z : Text) → is_closing (kind_of s z) ≡ true → slice_index z 0 < 128
first_ascii s z =
    let P : Type 0 = slice_index z 0 < 128 in
    passed (begins_blank s z) _ _ P (λ _ h. not_closing h) (passed (begins_line z) _ _ P (λ _ h. not_closing h) (passed (opens z 0) _ _ P (λ e _. opens_ascii z e)
    (passed (begins_str z) _ _ P (λ e _. str_ascii z e) (passed (begins_unicode 34 z) _ _ P (λ e _. unicode_ascii z e)
    (passed (slice_index z 0 == 34) _ _ P (λ e _. quoted_ascii z e) (passed (begins_dollar z) _ _ P (λ e _. dollar_ascii z e)
    (passed (begins_param z) _ _ P (λ _ h. not_closing h) (passed (begins_number z) _ _ P (λ _ h. not_closing h)
    (passed (begins_word (slice_index z 0)) _ _ P (λ _ h. not_closing h) (passed (begins_op z) _ _ P (λ _ h. not_closing h)
    (passed (is_punct (slice_index z 0)) _ _ P (λ _ h. not_closing h) (λ h. not_closing h))))))))))))

-- ---- places

pub open_between : OpenBetween
open_between t at h =
    let closes = h.2 in
    let ascii : slice_index (drop at t) 0 < 128 = first_ascii (at == 0) (drop at t) closes.closing in
    let place : at + 0 ≡ at = omega arith in
    let here : get_or t at 0 < 128 = subst (λ (n : ℕ). get_or t n 0 < 128) place (subst (λ (b : ℕ). b < 128) (get_or-drop at t 0 0) ascii) in
    IsCharBoundary-before_ascii t at closes.within here

pub syntax_between : SyntaxBetween
syntax_between t at u h =
    subst (λ (n : ℕ). IsCharBoundary t n) (sym h.place)
    (elim (cases_lt h.number (length h.toks)) [
      | inl l ↦ (token_between t h.toks h.number no_token u h.lexed l).0
      | inr l ↦ subst (λ (k : Tok). IsCharBoundary t k.start) (sym (get_or-eq_default h.toks no_token l)) (IsCharBoundary-start t u)
    ])
