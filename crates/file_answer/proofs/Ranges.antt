-- The bytes of a statement are whole characters, and its faults are between two characters.
use Rattle.std.proofs.Common.{◌≡◌, ◌∙◌, ℕ, ◌+◌, ◌-◌, ◌<◌, ◌≤◌, ◌^◌, List, inl, inr, arith, drop, get_or, length, length-drop, length-take-le, max, refl, subst, sym, true}
use Rattle.std.specs.Prelude.{◌==◌, nat_lt, slice_index, slice_range}
use Rattle.std.specs.Str.{IsCharBoundary, IsUtf8}
use Rattle.std.proofs.lemmas.Bool.{and_parts, cases_lt}
use Rattle.std.proofs.lemmas.Bool.Decides.{nat_tests}
use Rattle.std.proofs.lemmas.List.{get_or-drop, get_or-take}
use Rattle.std.proofs.lemmas.Str.{IsCharBoundary-before_ascii, IsCharBoundary-start}
use Rattle.std.proofs.Math.ListN.{get_or-eq_default}
use Rattle.std.proofs.Math.Nat.{max-eq_left, max-eq_right}
use Rattle.check_run.specs.source_file.declared.refusal.Refusal.{Refusal}
use Rattle.check_run.specs.source_file.declared.refusal.Refusal.TheVariants.{Missing, Unreadable, NotUtf8, TooLong, Unterminated, Syntax}
use Rattle.check_run.specs.source_file.File.{IsRangeIn}
use Rattle.check_run.specs.source_file.Refusals.{place_of}
use Rattle.sql_token.proofs.Boundaries.{token_between}
use Rattle.law_reports.specs.sql_read.sql_token.declared.token.Tok.{Tok}
use Rattle.law_reports.specs.sql_read.sql_token.Token.{Lexed, Text}
use Rattle.law_reports.specs.sql_read.sql_tree.Range.{span_range_of, token_at}
use Rattle.law_reports.specs.sql_read.sql_tree.Statement.{no_token}
use Rattle.law_reports.specs.sql_read.text_pos.Range.{Range}
use Rattle.file_answer.specs.Faults.{IsFault, cut_short, ends_in_semicolon, moved}

-- ---- from token to token

-- a token begins and ends between two characters, also the empty one that stands for none
token_boundaries : (t : Text) (toks : List Tok) (n : ℕ) → IsUtf8 t → Lexed t toks → IsCharBoundary t (token_at toks n).start × IsCharBoundary t (token_at toks n).end
token_boundaries t toks n u lexed =
    elim (cases_lt n (length toks)) [
      | inl less ↦ token_between t toks n no_token u lexed less
      | inr past ↦ subst (λ (k : Tok). IsCharBoundary t k.start × IsCharBoundary t k.end) (sym (get_or-eq_default toks no_token past)) (IsCharBoundary-start t u, IsCharBoundary-start t u)
    ]

greater_boundary : (t : Text) (a b : ℕ) → IsCharBoundary t a → IsCharBoundary t b → (a ≤ max a b) × IsCharBoundary t (max a b)
greater_boundary t a b p q =
    elim (cases_lt a b) [
      | inl less ↦
          let le : a ≤ b = omega (arith, less) in
          subst (λ (n : ℕ). (a ≤ n) × IsCharBoundary t n) (sym (max-eq_right le)) (le, q)
      | inr more ↦ subst (λ (n : ℕ). (a ≤ n) × IsCharBoundary t n) (sym (max-eq_left more)) (omega arith, p)
    ]

pub span_in : (t : Text) (toks : List Tok) (first last : ℕ) (r : Range) → IsUtf8 t → Lexed t toks → r ≡ span_range_of toks first last → IsRangeIn t r
span_in t toks first last r u lexed is =
    let start = (token_boundaries t toks first u lexed).0 in
    let end = greater_boundary t (token_at toks first).start (token_at toks last).end start (token_boundaries t toks last u lexed).1 in
    subst (λ (x : Range). IsRangeIn t x) (sym is) (record { ordered = end.0; start = start; end = end.1 })

-- ---- without a semicolon

same_number : (a b : ℕ) → (a == b) ≡ true → a ≡ b
same_number a b h = grind (arith, nat_tests)

is_less : (a b : ℕ) → nat_lt a b ≡ true → a < b
is_less a b h = grind (arith, nat_tests)

pub cut_in : (t : Text) (r : Range) → IsRangeIn t r → ends_in_semicolon t r ≡ true → IsRangeIn t (cut_short r)
cut_in t r i h =
    let both = and_parts (nat_lt r.start r.end) (slice_index t (r.end - 1) == 59) h in
    let less = is_less r.start r.end both.0 in
    let mark = same_number (slice_index t (r.end - 1)) 59 both.1 in
    record { ordered = omega (arith, less); start = i.start; end = IsCharBoundary-before_ascii t (r.end - 1) (omega (arith, less, i.end.0)) (omega (arith, mark)) }

-- ---- places in a part

length_part : (t : Text) (r : Range) → IsRangeIn t r → length (slice_range t r.start r.end) ≡ r.end - r.start
length_part t r i = length-take-le (r.end - r.start) (drop r.start t) (omega (arith, length-drop r.start t, i.end.0))

part_boundary : (t : Text) (r : Range) (k : ℕ) → IsRangeIn t r → IsCharBoundary (slice_range t r.start r.end) k → IsCharBoundary t (r.start + k)
part_boundary t r k i h =
    let long = length_part t r i in
    elim (cases_lt k (r.end - r.start)) [
      | inl less ↦
          let here : get_or (slice_range t r.start r.end) k 0 ≡ get_or t (r.start + k) 0 = get_or-take (r.end - r.start) (drop r.start t) k 0 less ∙ get_or-drop r.start t k 0 in (
            omega (arith, less, i.end.0),
            λ inside lead. subst (λ (b : ℕ). 192 ≤ b) here (h.1 (omega (arith, less, long)) (subst (λ (b : ℕ). 128 ≤ b) (sym here) lead)),
          )
      | inr past ↦
          let same : r.end ≡ r.start + k = omega (arith, past, long, i.ordered, h.0) in
          subst (λ (n : ℕ). IsCharBoundary t n) same i.end
    ]

pub moved_within : (t : Text) (r : Range) (k : ℕ) → length t < 2 ^ 32 → IsRangeIn t r → IsCharBoundary (slice_range t r.start r.end) k → r.start + k < 2 ^ 32
moved_within t r k short i h = let within = (part_boundary t r k i h).0 in omega (arith, within, short)

moved_place : (t : Text) (n : ℕ) (f : Refusal) → IsFault t f → place_of (moved n f) ≡ n + place_of f
moved_place t n Missing h = absurd h
moved_place t n Unreadable h = absurd h
moved_place t n (NotUtf8 at) h = absurd h
moved_place t n TooLong h = absurd h
moved_place t n (Unterminated at) h = refl
moved_place t n (Syntax at) h = refl

pub moved_between : (t : Text) (r : Range) (f : Refusal) → IsRangeIn t r → IsFault (slice_range t r.start r.end) f
    → IsCharBoundary (slice_range t r.start r.end) (place_of f) → IsCharBoundary t (place_of (moved r.start f))
moved_between t r f i h b =
    subst (λ (n : ℕ). IsCharBoundary t n) (sym (moved_place (slice_range t r.start r.end) r.start f h)) (part_boundary t r (place_of f) i b)
