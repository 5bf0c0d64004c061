-- The walk over the statements.
use Rattle.std.proofs.Common.{◌≡◌, ℕ, zero, suc, ◌+◌, ◌^◌, ◌<◌, ◌≤◌, List, [], ◌∷◌, ◌++◌, length, get_or, refl, sym, ap, ◌∙◌, arith, ◌==◌, true, false, ◌&&◌, Bool, not, if◌then◌else◌, Option, Some, None}
use Rattle.std.specs.Prelude.{slice_index}
use Rattle.std.proofs.lemmas.Bool.Decides.{nat_tests}
use Rattle.std.proofs.lemmas.List.{drop_all, drop_more, get_or_default}
use Rattle.sql_token.specs.declared.token.Tok.{Tok}
use Rattle.sql_token.specs.declared.terminal.Terminal.{Terminal}
use Rattle.sql_token.specs.Token.{Text, Leads, Lexed, text_of}
use Rattle.sql_token.specs.declared.token.TokKind.{TokKind}
use Rattle.sql_token.specs.declared.token.TokKind.TheVariants.{Blank, LineComment, BlockComment, Word, Quoted, Str, UName, Dollar, Param, Number, Op, Punct, Other}
use Rattle.sql_token.specs.declared.terminal.Symbol.{Symbol}
use Rattle.sql_token.specs.declared.terminal.Symbol.TheVariants as s
use Rattle.sql_token.specs.sql_keyword.declared.words.Keyword.{Keyword}
use Rattle.sql_token.specs.sql_keyword.Find.{keyword_of}
use Rattle.sql_token.specs.Terminal.{is_significant, symbol_of, word_symbol, is_opener, is_closer, is_semicolon, is_opener_symbol, is_closer_symbol, is_semicolon_symbol}
use Rattle.sql_token.specs.Depth.{onto, one_if, statements_from}
pub use Rattle.sql_lex.specs.Inside.{terminals_after}
use Rattle.sql_lex.specs.Cursor.{GoesOn, LieIn, IsWalk, Steps, IsNext, onto_all}

full : (buffer : List Terminal) (t : Terminal) (all others : List (List Terminal)) → all ≡ (buffer ++ t ∷ []) ∷ others → IsNext (buffer ++ t ∷ []) all others
full [] t all others e = e
full (u ∷ buffer) t all others e = e

pub onto_all-push : (b : List Terminal) (t : Terminal) (lists : List (List Terminal)) → onto_all (b ++ t ∷ []) lists ≡ onto_all b (onto t lists)
onto_all-push [] t lists = refl
onto_all-push (u ∷ b) t lists = ap (onto u) (onto_all-push b t lists)

pub onto_all-last : (b : List Terminal) (t : Terminal) (lists : List (List Terminal)) → onto_all b ((t ∷ []) ∷ lists) ≡ (b ++ t ∷ []) ∷ lists
onto_all-last [] t lists = refl
onto_all-last (u ∷ b) t lists = ap (onto u) (onto_all-last b t lists)

onto_all-alone : (t : Terminal) (b : List Terminal) → onto_all (t ∷ b) [] ≡ (t ∷ b) ∷ []
onto_all-alone t [] = refl
onto_all-alone t (u ∷ b) = ap (onto t) (onto_all-alone u b)

pub leads_lie : (t : Text) (i j : ℕ) (ks : List Tok) → Leads t i ks j → LieIn (length t) ks
leads_lie t i j [] p = tt
leads_lie t i j (k ∷ ks) p = (omega (arith, p.0, p.1.before), p.1.within, leads_lie t k.end j ks p.2)

pub leads_count : (t : Text) (i j : ℕ) (ks : List Tok) → Leads t i ks j → i + length ks ≤ j
leads_count t i j [] p = omega (arith, p)
leads_count t i j (k ∷ ks) p = omega (arith, p.1.before, leads_count t k.end j ks p.2)

pub is_walk : (t : Text) (ks : List Tok) → Lexed t ks → length t < 2 ^ 32 → IsWalk (length t) ks 0
is_walk t ks p short = record {
  lie = leads_lie t 0 (length t) ks p;
  within = omega arith;
  few = omega (arith, leads_count t 0 (length t) ks p);
}

pub lies_at : (len : ℕ) (ks : List Tok) (n : ℕ) (k : Tok) → LieIn len ks → n < length ks → (get_or ks n k).start ≤ (get_or ks n k).end × (get_or ks n k).end ≤ len
lies_at len [] n k p h = absurd (omega arith)
lies_at len (x ∷ ks) zero k p h = (p.0, p.1)
lies_at len (x ∷ ks) (suc n) k p h = lies_at len ks n k p.2 (omega arith)

pub after_blank : (t : Text) (ks : List Tok) (n : ℕ) (k : Tok) → n < length ks → is_significant (get_or ks n k).kind ≡ false → terminals_after t ks n ≡ terminals_after t ks (n + 1)
after_blank t ks n k h blank = rw (drop_more ks n k h, blank) refl

pub after_some : (t : Text) (ks : List Tok) (n : ℕ) (k : Tok) → n < length ks → is_significant (get_or ks n k).kind ≡ true
    → terminals_after t ks n ≡ record { symbol = symbol_of (get_or ks n k).kind (text_of t (get_or ks n k)); number = n } ∷ terminals_after t ks (n + 1)
after_some t ks n k h some = rw (drop_more ks n k h, some) refl

-- a token that is neither white space nor a word
pub stops_at : (ks : List Tok) (n : ℕ) (d : Tok) → is_significant (get_or ks n d).kind ≡ true → ((get_or ks n d).kind ≡ Word → ⊥) → (k : Tok) → n < length ks → (is_significant (get_or ks n k).kind ≡ true) × ((get_or ks n k).kind ≡ Word → ⊥)
stops_at ks n d some other k h =
    let same : get_or ks n k ≡ get_or ks n d = get_or_default ks n k d h in
    (ap (λ (t : Tok). is_significant t.kind) same ∙ some, λ w. other (ap (λ (t : Tok). t.kind) (sym same) ∙ w))

-- the terminal goes on with a statement
pub goes_on : (buffer : List Terminal) (o c : ℕ) (t : Terminal) (ts from : List Terminal) (all : List (List Terminal)) → from ≡ t ∷ ts → (o == c && is_semicolon t) ≡ false → onto_all buffer (statements_from o c from) ≡ all
    → onto_all (buffer ++ t ∷ []) (statements_from (o + one_if (is_opener t)) (c + one_if (is_closer t)) ts) ≡ all
goes_on buffer o c t ts from all begins on same =
    let step : statements_from o c from ≡ onto t (statements_from (o + one_if (is_opener t)) (c + one_if (is_closer t)) ts) = rw (begins, on) refl in
    onto_all-push buffer t _ ∙ ap (onto_all buffer) (sym step) ∙ same

-- no bracket and no `;`
abbrev Passes : Symbol → Type 0
Passes y = (is_semicolon_symbol y ≡ false) × (is_opener_symbol y ≡ false) × (is_closer_symbol y ≡ false)

word_passes : (w : Option Keyword) → Passes (word_symbol w)
word_passes None = (refl, refl, refl)
word_passes (Some k) = (refl, refl, refl)

number_passes : (one : Bool) → Passes (if one then s.One else s.Number)
number_passes true = (refl, refl, refl)
number_passes false = (refl, refl, refl)

operator_passes : (equals alone star : Bool) → Passes (if equals then (if alone then s.Equals else s.EqualsOperator) else (if star then s.Star else s.Operator))
operator_passes true true star = (refl, refl, refl)
operator_passes true false star = (refl, refl, refl)
operator_passes false alone true = (refl, refl, refl)
operator_passes false alone false = (refl, refl, refl)

passes : (k : TokKind) (bs : Text) → (k ≡ Punct → ⊥) → Passes (symbol_of k bs)
unfolding symbol_of
passes Word bs h = word_passes (keyword_of bs)
passes Number bs h = number_passes (slice_index bs 0 == 49 && length bs == 1)
passes Op bs h = operator_passes (slice_index bs 0 == 61) (length bs == 1) (slice_index bs 0 == 42 && length bs == 1)
passes Punct bs h = absurd (h refl)
passes Blank bs h = (refl, refl, refl)
passes LineComment bs h = (refl, refl, refl)
passes BlockComment bs h = (refl, refl, refl)
passes Quoted bs h = (refl, refl, refl)
passes Str bs h = (refl, refl, refl)
passes UName bs h = (refl, refl, refl)
passes Dollar bs h = (refl, refl, refl)
passes Param bs h = (refl, refl, refl)
passes Other bs h = (refl, refl, refl)

-- brackets and `;` are marks
pub no_mark : (k : TokKind) (bs : Text) (n : ℕ) (t : Terminal) → t ≡ record { symbol = symbol_of k bs; number = n } → (k ≡ Punct → ⊥) → GoesOn t
unfolding is_semicolon is_opener is_closer
no_mark k bs n t is h =
    let p = passes k bs h in
    record { semicolon = ap is_semicolon is ∙ p.0; opener = ap is_opener is ∙ p.1; closer = ap is_closer is ∙ p.2 }

no_end : (b s : Bool) → s ≡ false → b && s ≡ false
no_end true s h = h
no_end false s h = refl

-- the terminal is neither a bracket nor `;`
pub goes_over : (buffer : List Terminal) (o c : ℕ) (t : Terminal) (ts from : List Terminal) (all : List (List Terminal)) → from ≡ t ∷ ts → GoesOn t → onto_all buffer (statements_from o c from) ≡ all
    → onto_all (buffer ++ t ∷ []) (statements_from o c ts) ≡ all
goes_over buffer o c t ts from all begins h same =
    let opened : o ≡ o + 0 = omega arith in
    let closed : c ≡ c + 0 = omega arith in
    (λ i. onto_all (buffer ++ t ∷ []) (statements_from (opened i) (closed i) ts))
    ∙ (rw (h.opener, h.closer) at (goes_on buffer o c t ts from all begins (no_end (o == c) (is_semicolon t) h.semicolon) same))

-- the terminal ends a statement
pub ends : (buffer : List Terminal) (o c : ℕ) (t : Terminal) (ts from : List Terminal) (all : List (List Terminal)) → from ≡ t ∷ ts → (o == c && is_semicolon t) ≡ true → onto_all buffer (statements_from o c from) ≡ all
    → IsNext (buffer ++ t ∷ []) all (statements_from 0 0 ts)
ends buffer o c t ts from all begins on same =
    let step : statements_from o c from ≡ (t ∷ []) ∷ statements_from 0 0 ts = rw (begins, on) refl in
    full buffer t all _ (sym same ∙ ap (onto_all buffer) step ∙ onto_all-last buffer t _)

-- no terminal is left
pub runs_out : (buffer from : List Terminal) (o c : ℕ) (all : List (List Terminal)) → from ≡ [] → onto_all buffer (statements_from o c from) ≡ all → IsNext buffer all (statements_from 0 0 from)
runs_out [] from o c all none same = (rw none at (sym same), rw none refl)
runs_out (t ∷ buffer) from o c all none same = rw none ((rw none at (sym same)) ∙ onto_all-alone t buffer)

-- whether there is a statement is known by whether it is empty
pub steps : (more : Bool) (statement : List Terminal) (old new : List (List Terminal)) → more ≡ not (length statement == 0) → IsNext statement old new → Steps more old statement new
steps true [] old new e next = cc
steps false [] old new e next = (next.0, refl, next.1)
steps true (t ∷ ts) old new e next = (next, omega arith)
steps false (t ∷ ts) old new e next = absurd (grind (arith, nat_tests))

pub after_all : (t : Text) (ks : List Tok) (n : ℕ) → length ks ≤ n → terminals_after t ks n ≡ []
after_all t ks n h = rw (drop_all n ks h) refl
