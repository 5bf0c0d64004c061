-- The statements of a text, one by one.
use Rattle.std.proofs.Common.{◌≡◌, ◌∙◌, ℕ, ◌+◌, ◌<◌, ◌≤◌, List, [], ◌∷◌, ◌++◌, inl, inr, ap, append-nil, append_assoc, arith, drop, get_or, length, refl, subst, sym}
use Rattle.std.specs.Prelude.{◌⊎◌, slice_index, slice_range}
use Rattle.std.specs.Str.{IsCharBoundary, IsUtf8}
use Rattle.std.proofs.lemmas.List.{drop_all, drop_more}
use Rattle.psql_text.proofs.Blanks.{all_stays, length-blanked, utf8-blanked}
use Rattle.psql_text.specs.Laws.{IsSameOrBlank}
use Rattle.psql_text.specs.Psql.{blanked}
use Rattle.psql_text.specs.declared.part.Part.{Part}
use Rattle.check_run.specs.source_file.declared.refusal.Refusal.{Refusal}
use Rattle.check_run.specs.source_file.File.{IsRangeIn}
use Rattle.law_reports.specs.sql_read.sql_token.declared.token.Span.{Span}
use Rattle.law_reports.specs.sql_read.sql_token.declared.token.Tok.{Tok}
use Rattle.law_reports.specs.sql_read.sql_token.Token.{Text}
use Rattle.law_reports.specs.sql_read.text_pos.Range.{Range}
use Rattle.file_answer.specs.Faults.{HaveFaults, IsFaultIn, IsReadable, range_of, whole_part}
use Rattle.file_answer.specs.Faults.HaveFaults.{none, read, fault}

-- The statements up to the one of this number have these faults, and these bytes are the text with those blank that have one: what the
-- others have comes after these.
abbrev pub Going : Text → List Tok → List Span → ℕ → List Refusal → Text → Type 0
Going t toks spans i faults bytes = (fs : List Refusal) (u : Text) → HaveFaults t toks (drop i spans) fs bytes u → HaveFaults t toks spans (faults ++ fs) t u

pub begins : (t : Text) (toks : List Tok) (spans : List Span) (faults : List Refusal) (bytes : Text) → faults ≡ [] → bytes ≡ t → Going t toks spans 0 faults bytes
begins t toks spans faults bytes empty same = λ fs u h.
    let here : HaveFaults t toks spans fs t u = subst (λ (s : Text). HaveFaults t toks spans fs s u) same h in
    subst (λ (xs : List Refusal). HaveFaults t toks spans (xs ++ fs) t u) (sym empty) here

front : (spans : List Span) (i : ℕ) (x d : Span) → i < length spans → x ≡ get_or spans i d → drop i spans ≡ x ∷ drop (i + 1) spans
front spans i x d less same = drop_more spans i d less ∙ ap (λ y. y ∷ drop (i + 1) spans) (sym same)

pub read_on : (t : Text) (toks : List Tok) (spans : List Span) (i : ℕ) (x d : Span) (r : Range) (faults : List Refusal) (bytes : Text) → i < length spans → x ≡ get_or spans i d
    → r ≡ range_of t toks x → IsReadable (slice_range t r.start r.end) → Going t toks spans i faults bytes → Going t toks spans (i + 1) faults bytes
read_on t toks spans i x d r faults bytes less same is readable going = λ fs u h.
    let here = subst (λ (y : Range). IsReadable (slice_range t y.start y.end)) is readable in
    going fs u (subst (λ (xs : List Span). HaveFaults t toks xs fs bytes u) (sym (front spans i x d less same)) (read x (drop (i + 1) spans) fs bytes u here h))

pub fault_on : (t : Text) (toks : List Tok) (spans : List Span) (i : ℕ) (x d : Span) (r : Range) (faults more : List Refusal) (f : Refusal) (bytes new : Text) → i < length spans
    → x ≡ get_or spans i d → r ≡ range_of t toks x → IsFaultIn t r f → more ≡ faults ++ f ∷ [] → new ≡ blanked (whole_part r) bytes
    → Going t toks spans i faults bytes → Going t toks spans (i + 1) more new
fault_on t toks spans i x d r faults more f bytes new less same is has pushed blank going = λ fs u h.
    let own = subst (λ (y : Range). IsFaultIn t y f) is has in
    let s : new ≡ blanked (whole_part (range_of t toks x)) bytes = blank ∙ ap (λ (y : Range). blanked (whole_part y) bytes) is in
    let here = subst (λ (s : Text). HaveFaults t toks (drop (i + 1) spans) fs s u) s h in
    let step = subst (λ (xs : List Span). HaveFaults t toks xs (f ∷ fs) bytes u) (sym (front spans i x d less same)) (fault x (drop (i + 1) spans) f fs bytes u own here) in
    let list : faults ++ f ∷ fs ≡ more ++ fs = sym (append_assoc faults (f ∷ []) fs) ∙ ap (λ xs. xs ++ fs) (sym pushed) in
    subst (λ (xs : List Refusal). HaveFaults t toks spans xs t u) list (going (f ∷ fs) u step)

pub all_read : (t : Text) (toks : List Tok) (spans : List Span) (i : ℕ) (faults : List Refusal) (bytes : Text) → length spans ≤ i → Going t toks spans i faults bytes
    → HaveFaults t toks spans faults t bytes
all_read t toks spans i faults bytes past going =
    let last = subst (λ (xs : List Span). HaveFaults t toks xs [] bytes bytes) (sym (drop_all i spans past)) (none bytes) in
    subst (λ (xs : List Refusal). HaveFaults t toks spans xs t bytes) (append-nil faults) (going [] bytes last)

-- ---- what stays of a text

-- each place between two characters of the first text is one of the second, which is as long and has whole characters
pub record StaysWhole (t u : Text) : Type 0 where
  pub long : length u ≡ length t
  pub utf8 : IsUtf8 u
  pub places : (k : ℕ) → IsCharBoundary t k → IsCharBoundary u k

blank_no_lead : (b c : ℕ) → IsSameOrBlank b c → (128 ≤ b → 192 ≤ b) → 128 ≤ c → 192 ≤ c
blank_no_lead b c (inl same) lead high = subst (λ (x : ℕ). 192 ≤ x) (sym same) (lead (subst (λ (x : ℕ). 128 ≤ x) same high))
blank_no_lead b c (inr (inl space)) lead high = absurd (omega (arith, space.1, high))
blank_no_lead b c (inr (inr semicolon)) lead high = absurd (omega (arith, semicolon.1, high))

place_stays : (p : Part) (t : Text) (k : ℕ) → IsCharBoundary t k → IsCharBoundary (blanked p t) k
place_stays p t k h =
    let long = length-blanked p t in (
      omega (arith, long, h.0),
      λ less. blank_no_lead (slice_index t k) (slice_index (blanked p t) k) ((all_stays (p ∷ []) t).1 k) (h.1 (omega (arith, long, less))),
    )

pub range_in : (t u : Text) (r : Range) → StaysWhole t u → IsRangeIn t r → IsRangeIn u r
range_in t u r whole i = record { ordered = i.ordered; start = whole.places r.start i.start; end = whole.places r.end i.end }

pub whole_blanked : (t u new : Text) (r : Range) → StaysWhole t u → IsRangeIn t r → new ≡ blanked (whole_part r) u → StaysWhole t new
whole_blanked t u new r whole i is =
    let here = range_in t u r whole i in
    subst (λ (x : Text). StaysWhole t x) (sym is) (
    record {
      long = length-blanked (whole_part r) u ∙ whole.long;
      utf8 = utf8-blanked (whole_part r) u here.ordered here.end.0 whole.utf8 here.start here.end;
      places = λ k h. place_stays (whole_part r) u k (whole.places k h);
    }
    )

pub whole_self : (t u : Text) → u ≡ t → IsUtf8 t → StaysWhole t u
whole_self t u same utf8 = subst (λ (x : Text). StaysWhole t x) (sym same) (record { long = refl; utf8 = utf8; places = λ k h. h })
