-- A report at positions, part by part.
use Rattle.std.proofs.Common.{◌≡◌, ◌∙◌, ℕ, List, Option, Some, ap}
use Rattle.lsp_session.specs.lint_report.declared.report.Report as found
use Rattle.lsp_session.specs.declared.report.Report.{Report}
use Rattle.lsp_session.specs.Remedy.{RemedyValue}
use Rattle.lsp_shown.specs.declared.ignore.Lines.{Lines}
use Rattle.lsp_shown.specs.Ignore.{ignore_if}
use Rattle.lsp_shown.specs.Shown.{remedy_if, report_of}
use Rattle.lsp_session.specs.text_utf16.Position.{position_of}
use Rattle.lsp_session.specs.text_utf16.declared.position.Pos.{Pos}

abbrev made : found.Report → Pos → Pos → Option RemedyValue → Option RemedyValue → Report
made r start end fix ignore =
    record { start = start; end = end; code = Some r.code; message = r.message; note = r.note; help = r.help; fix = fix; ignore = ignore }

pub reported : (text : List ℕ) (tokens : List Lines) (notes : List Pos) (r : found.Report) (start end : Pos) (from to : ℕ) (fix ignore : Option RemedyValue) → from ≡ r.text_range.start → to ≡ r.text_range.end
    → start ≡ position_of text from → end ≡ position_of text to → fix ≡ remedy_if text r.fix → ignore ≡ ignore_if tokens notes r.code start.line
    → made r start end fix ignore ≡ report_of text tokens notes r
reported text tokens notes r start end from to fix ignore at_start at_end starts ends fixes ignores =
    let first : start ≡ position_of text r.text_range.start = starts ∙ ap (position_of text) at_start in
    let last : end ≡ position_of text r.text_range.end = ends ∙ ap (position_of text) at_end in
    let comment = ignores ∙ ap (λ (p : Pos). ignore_if tokens notes r.code p.line) first in
    ap (λ (p : Pos). made r p end fix ignore) first ∙ ap (λ (p : Pos). made r (position_of text r.text_range.start) p fix ignore) last
    ∙ ap (λ (f : Option RemedyValue). made r (position_of text r.text_range.start) (position_of text r.text_range.end) f ignore) fixes
    ∙ ap (λ (i : Option RemedyValue). made r (position_of text r.text_range.start) (position_of text r.text_range.end) (remedy_if text r.fix) i) comment
