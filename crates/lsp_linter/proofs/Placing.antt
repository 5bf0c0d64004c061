-- Tokens, reports and faults are at places of their text.
use Rattle.std.proofs.Common.{◌≡◌, ℕ, List, Option, None, Some, IfSome, All, subst, sym}
use Rattle.std.proofs.lemmas.List.Elements.{All-weaker}
use Rattle.std.specs.Str.{IsCharBoundary, IsUtf8}
use Rattle.law_fault_places.proofs.Places.{open_between, syntax_between}
use Rattle.text_reports.specs.lint_base.declared.edit.Edit.{Edit}
use Rattle.text_reports.specs.lint_ignore.Places.{IsPlace}
use Rattle.text_reports.specs.lint_pass.Laws.{AreEdits}
use Rattle.text_reports.specs.lint_report.declared.report.Report.{Report}
use Rattle.text_reports.specs.lint_report.declared.report.ReportFix.{ReportFix}
use Rattle.lsp_shown.specs.Places.{EditIn, FixIn, ReportIn}
use Rattle.lsp_shown.specs.Tokens.{TokenIn}
use Rattle.lsp_shown.specs.source_file.File.{IsRangeIn}
use Rattle.text_reports.proofs.of_sql_token.Boundaries.{token_between}
use Rattle.text_reports.specs.sql_token.declared.token.Tok.{Tok}
use Rattle.text_reports.specs.sql_token.Token.{Lexed, OpenAt, Text}
use Rattle.text_reports.specs.sql_tree.Statement.{IsSyntaxAt}
use Rattle.text_reports.specs.text_pos.Range.{Range}
use Rattle.text_reports.specs.Placed.{IsReportPlaced}

-- ---- tokens

pub tokens_in : (t : Text) (toks : List Tok) → IsUtf8 t → Lexed t toks → All (TokenIn t) toks
tokens_in t toks u lexed = λ i d below. let between = token_between t toks i d u lexed below in record { start = between.0; end = between.1 }

-- a text and its tokens, which are those of a tree
pub lexed_of : (t text : Text) (toks tokens : List Tok) → text ≡ t → tokens ≡ toks → Lexed t toks → Lexed text tokens
lexed_of t text toks tokens e f lexed = subst (λ (x : Text). Lexed x tokens) (sym e) (subst (λ (ks : List Tok). Lexed t ks) (sym f) lexed)

-- ---- reports

range_in : (t : Text) (range : Range) → IsPlace t range → IsRangeIn t range
range_in t range place = record { ordered = place.ordered; start = place.start; end = place.end }

fix_in : (t : Text) (fix : Option ReportFix) → IfSome fix (λ f. AreEdits t f.fix.edits) → IfSome fix (FixIn t)
fix_in t None h = tt
fix_in t (Some f) h = All-weaker (λ (e : Edit). IsPlace t e.text_range) (EditIn t) (λ e place. range_in t e.text_range place) f.fix.edits h.places

report_in : (t : Text) (r : Report) → IsReportPlaced t r → ReportIn t r
report_in t r placed = record { range = range_in t r.text_range placed.range; fix = fix_in t r.fix placed.edits }

pub reports_in : (t : Text) (reports : List Report) → All (IsReportPlaced t) reports → All (ReportIn t) reports
reports_in t reports placed = All-weaker (IsReportPlaced t) (ReportIn t) (report_in t) reports placed

pub reports_of : (t text : Text) (reports : List Report) → text ≡ t → All (IsReportPlaced t) reports → All (ReportIn text) reports
reports_of t text reports e placed = subst (λ (x : Text). All (ReportIn x) reports) (sym e) (reports_in t reports placed)

-- ---- faults

pub open_in : (t : Text) (at : ℕ) → OpenAt t at → IsCharBoundary t at
open_in t at h = open_between t at h

pub syntax_in : (t : Text) (at : ℕ) → IsUtf8 t → IsSyntaxAt t at → IsCharBoundary t at
syntax_in t at u h = syntax_between t at u h
