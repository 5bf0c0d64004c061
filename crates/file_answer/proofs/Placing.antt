-- Where the findings of a text are.
use Rattle.std.proofs.Common.{◌≡◌, ◌∙◌, ◌<◌, ◌^◌, ap, arith, inl, inr, subst, sym, ℕ, Bool, List, All, IfSome, Option, Some, None, length, take}
use Rattle.std.proofs.lemmas.List.{length-take-le, take_all}
use Rattle.std.proofs.lemmas.List.Elements.{All-weaker}
use Rattle.std.proofs.lemmas.Str.{IsCharBoundary-end, utf8_valid_len-IsUtf8, utf8_valid_len_le}
use Rattle.std.specs.Str.{IsCharBoundary, IsUtf8}
use Rattle.std.specs.Str.Lossy.{utf8_valid_len}
use Rattle.check_run.specs.checked_file.declared.checked.Passed.{Passed}
use Rattle.check_run.specs.source_file.declared.refusal.Refusal.TheVariants.{Syntax}
use Rattle.check_run.specs.checked_file.Files.{readable_of}
use Rattle.check_run.specs.checked_file.Sound.{AreEditsIn, IsReportIn}
use Rattle.law_reports.specs.lint_ignore.Places.{IsPlace}
use Rattle.law_reports.specs.lint_pass.Laws.{AreEdits}
use Rattle.law_reports.specs.lint_report.declared.report.Report.{Report}
use Rattle.law_reports.specs.lint_report.declared.report.ReportFix.{ReportFix}
use Rattle.check_run.specs.source_file.File.{IsRangeIn}
use Rattle.law_reports.specs.sql_token.declared.token.Tok.{Tok}
use Rattle.law_reports.specs.sql_token.Token.{Lexed, Text}
use Rattle.law_reports.specs.text_pos.Range.{Range}
use Rattle.law_reports.specs.text_reports.Placed.{IsReportPlaced}
use Rattle.file_answer.specs.Faults.{IsFault}
use Rattle.file_answer.specs.declared.text.Found.{Found}
use Rattle.file_answer.specs.Found.{IsFoundIn}
use Rattle.file_answer.specs.Reading.{IsReadBy}

place_in : (t : Text) (r : Range) → IsPlace t r → IsRangeIn t r
place_in t r place = record { ordered = place.ordered; start = place.start; end = place.end }

edits_in : (t : Text) (fix : Option ReportFix) → IfSome fix (λ f. AreEdits t f.fix.edits) → IfSome fix (λ f. AreEditsIn t f.fix.edits)
edits_in t None h = tt
edits_in t (Some f) h = All-weaker (λ e. IsPlace t e.text_range) (λ e. IsRangeIn t e.text_range) (λ e place. place_in t e.text_range place) f.fix.edits h.places

report_in : (t : Text) (v : Report) → IsReportPlaced t v → IsReportIn t v
report_in t v placed = record {
  range = place_in t v.text_range placed.range;
  statement = place_in t v.statement placed.statement;
  edits = edits_in t v.fix placed.edits;
}

pub reports_in : (t : Text) (reports : List Report) → All (IsReportPlaced t) reports → All (IsReportIn t) reports
reports_in t reports placed = All-weaker (IsReportPlaced t) (IsReportIn t) (report_in t) reports placed

-- a text of which a statement can't be read has tokens
pub is_lexed : (t : Text) (at : ℕ) → IsFault t (Syntax at) → (toks : List Tok) × Lexed t toks
is_lexed t at (inl s) = (s.toks, s.lexed)
is_lexed t at (inr b) = (b.tree.toks, subst (λ (x : Text). Lexed x b.tree.toks) b.of_text.0 b.of_text.1.lexed)

-- the end of the front that is UTF-8
pub end_in : (bytes : List ℕ) (at : ℕ) → at ≡ utf8_valid_len bytes → IsCharBoundary (readable_of bytes) at
end_in bytes at e =
    let front = readable_of bytes in
    let long : length front ≡ at = length-take-le (utf8_valid_len bytes) bytes (utf8_valid_len_le bytes) ∙ sym e in
    subst (λ (n : ℕ). IsCharBoundary front n) long (IsCharBoundary-end front)

-- of a text that is UTF-8 all can be read
all_read : (bytes : List ℕ) → IsUtf8 bytes → readable_of bytes ≡ bytes
all_read bytes u = ap (λ n. take n bytes) (utf8_valid_len-IsUtf8 bytes u) ∙ take_all (length bytes) bytes (omega arith)

pub found_in : (bytes : List ℕ) (found : Found) → IsUtf8 bytes → IsFoundIn bytes found → IsFoundIn (readable_of bytes) found
found_in bytes found u h = subst (λ (b : List ℕ). IsFoundIn b found) (sym (all_read bytes u)) h

pub reports_of_all : (bytes : List ℕ) (reports : List Report) → IsUtf8 bytes → All (IsReportIn bytes) reports → All (IsReportIn (readable_of bytes)) reports
reports_of_all bytes reports u h = subst (λ (b : List ℕ). All (IsReportIn b) reports) (sym (all_read bytes u)) h

-- the front of few bytes has few
pub front_short : (bytes : List ℕ) → length bytes < 2 ^ 32 → length (readable_of bytes) < 2 ^ 32
front_short bytes h = omega (arith, length-take-le (utf8_valid_len bytes) bytes (utf8_valid_len_le bytes), utf8_valid_len_le bytes)

-- ---- which text was read

-- of the same bytes the same is read
pub read_by : (b : Bool) (t s u : Text) (passed other : Option Passed) → u ≡ s → other ≡ passed → IsReadBy b t s passed → IsReadBy b t u other
read_by b t s u passed other same is h = subst (λ (x : Text). IsReadBy b t x other) (sym same) (subst (λ (p : Option Passed). IsReadBy b t s p) (sym is) h)
