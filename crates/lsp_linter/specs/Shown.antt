-- Which reports a text has for an editor.
use Rattle.std.specs.Prelude.{◌≡◌, ◌⊎◌, ℕ, List, [], ◌∷◌, Option, Some, None, codes}
use Rattle.text_reports.specs.hazard_base.declared.hazard_set.HazardSet.{HazardSet}
use Rattle.text_reports.specs.lint_base.RuleSets.{Rules}
use Rattle.text_reports.specs.lint_base.declared.settings.LinterSettings.{LinterSettings}
use Rattle.lsp_shown.specs.lsp_session.declared.report.Report.{Report}
use Rattle.lsp_shown.specs.Notes.{notes_in}
use Rattle.lsp_shown.specs.Shown.{refused_at, shown}
use Rattle.lsp_shown.specs.Tokens.{long_tokens}
use Rattle.text_reports.specs.sql_read.Cause.{IsCause, IsTreeOf}
use Rattle.text_reports.specs.sql_read.declared.error.LintError.{LintError}
use Rattle.text_reports.specs.sql_read.declared.error.LintError.TheVariants.{TooLong, Unterminated, Syntax, NoMemory}
use Rattle.text_reports.specs.sql_tree.Statement.{Tree}
use Rattle.text_reports.specs.Reports.{all_reports}
use Rattle.lsp_shown.specs.text_utf16.Position.{position_of}
use Rattle.lsp_shown.specs.text_utf16.declared.position.Pos.{Pos}

-- a text with a tree, and all that is reported of it, at positions
pub record Lints (rules : Rules) (hazards : HazardSet) (settings : LinterSettings) (t : List ℕ) (found : List Report) : Type 0 where
  pub tree : Tree
  pub of_text : IsTreeOf t tree
  pub are : found ≡ shown t (long_tokens t tree.toks) (notes_in t tree.toks) (all_reports tree rules hazards settings)

-- where a text begins
abbrev pub start : Pos
start = record { line = 0; col = 0 }

-- The report of a text that is refused, at the place of the fault. Running out of memory refuses no text, so it has none.
abbrev pub refusal_of : List ℕ → LintError → Option Report
refusal_of t TooLong = Some (refused_at (codes "the text has 2^32 bytes or more") start)
refusal_of t (Unterminated at) = Some (refused_at (codes "what begins here does not end") (position_of t at))
refusal_of t (Syntax at) = Some (refused_at (codes "the statement that begins here can't be read") (position_of t at))
refusal_of t NoMemory = None

-- a text that is refused, and the one report of that
pub record Refuses (t : List ℕ) (found : List Report) : Type 0 where
  pub error : LintError
  pub cause : IsCause t error
  pub report : Report
  pub of_error : refusal_of t error ≡ Some report
  pub are : found ≡ report ∷ []

-- the reports of a text
abbrev pub Shows : Rules → HazardSet → LinterSettings → List ℕ → List Report → Type 0
Shows rules hazards settings t found = Lints rules hazards settings t found ⊎ Refuses t found
