-- What an index of reports knows.
use Rattle.std.specs.Prelude.{◌≡◌, ℕ, Bool, true, ◌==◌, ◌&&◌, ◌||◌, List}
use Rattle.std.specs.List.{list_any}
use Rattle.sql_tree.specs.sql_token.Token.{Text}
use Rattle.sql_tree.specs.text_pos.Line.{line_feeds, line_of}
use Rattle.lint_base.specs.declared.rule.Rule.{Rule}
use Rattle.lint_base.specs.declared.violation.Violation.{Violation}
use Rattle.lint_base.specs.Rules.{number_of}
use Rattle.lint_base.specs.RuleSets.{has}
use Rattle.lint_ignore.specs.declared.reported.ReportIndex.{ReportIndex}
use Rattle.lint_ignore.specs.Lines.{at_line, is_among}

-- a report starts on a line
abbrev pub starts_on : Text → ℕ → Violation → Bool
starts_on text line v = line_of text v.text_range.start == line

-- a report that passes has this rule
abbrev pub reports_rule : (Violation → Bool) → Rule → Violation → Bool
reports_rule passes rule v = passes v && number_of rule == number_of v.code

abbrev pub anywhere : Violation → Bool
anywhere v = true

-- the index knows which rules some reports of a text have, and which they have on each line
pub record IsReportIndex (index : ReportIndex) (text : Text) (all : List Violation) : Type 0 where
  pub lines : index.lines ≡ line_feeds text
  pub rules : (rule : Rule) → has index.rules rule ≡ list_any (reports_rule anywhere rule) all
  pub by_line : (line : ℕ) (rule : Rule) → is_among (at_line index.by_line line) rule ≡ list_any (reports_rule (starts_on text line) rule) all

-- the second index knows one report more
pub record AddsReport (old new : ReportIndex) (v : Violation) : Type 0 where
  pub lines : new.lines ≡ old.lines
  pub rules : (rule : Rule) → has new.rules rule ≡ (has old.rules rule || number_of rule == number_of v.code)
  pub by_line : (text : Text) → old.lines ≡ line_feeds text → (line : ℕ) (rule : Rule)
      → is_among (at_line new.by_line line) rule ≡ (is_among (at_line old.by_line line) rule || reports_rule (starts_on text line) rule v)
