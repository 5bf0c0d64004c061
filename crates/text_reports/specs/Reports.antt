-- All that is reported of a text.
use Rattle.std.specs.Prelude.{◌≡◌, ℕ, ◌+◌, List, [], ◌++◌, Option, None, filter, if◌then◌else◌, length, map, not, Some}
use Rattle.fix_class.specs.Classes.{class_of}
use Rattle.hazard_find.specs.hazard_base.declared.finding.Finding.{Finding}
use Rattle.hazard_find.specs.hazard_base.declared.hazard_set.HazardSet.{HazardSet}
use Rattle.hazard_find.specs.Findings.{findings_of}
use Rattle.hazard_ignore.specs.Covered.{is_covered, unused_names}
use Rattle.hazard_ignore.specs.HazardNames.{without_hazard_names}
use Rattle.squawk_linter.specs.lint_base.declared.rule.Rule.TheVariants as rule
use Rattle.squawk_linter.specs.lint_base.declared.settings.LinterSettings.{LinterSettings}
use Rattle.squawk_linter.specs.lint_base.declared.violation.Violation.{Violation}
use Rattle.squawk_linter.specs.lint_base.Fixes.{FixValue}
use Rattle.squawk_linter.specs.lint_base.RuleSets.{Rules, has}
use Rattle.fix_class.specs.lint_report.declared.code.Code.TheVariants as code
use Rattle.fix_class.specs.lint_report.declared.fix_class.FixClass.{FixClass}
use Rattle.fix_class.specs.lint_report.declared.report.Report.{Report}
use Rattle.fix_class.specs.lint_report.declared.report.ReportFix.{ReportFix}
use Rattle.squawk_linter.specs.sql_tree.Statement.{Tree}
use Rattle.squawk_linter.specs.Answers.{reports}
use Rattle.squawk_linter.specs.ByStart.{by_key}
use Rattle.fix_class.specs.statement_place.Statements.{statement_of}

-- ---- what is found

-- the findings that no ignore comment covers
abbrev pub uncovered : Tree → List Finding → List Finding
uncovered tree found = filter (λ f. not (is_covered tree f)) found

-- the names of hazards in ignore comments that cover nothing, where the rule on such names is enabled
unfoldable pub unused : Tree → Rules → HazardSet → List Finding → List Violation
unused tree rules hazards found = if has rules rule.UnusedIgnore then unused_names tree found hazards else []

-- ---- as reports

-- a fix that is offered, with how far it can be trusted
abbrev pub offered : Option FixClass → Option FixValue → Option ReportFix
offered None fix = None
offered (Some class) None = None
offered (Some class) (Some fix) = Some (record { class = class; fix = fix })

unfoldable pub by_rule : LinterSettings → Tree → Violation → Report
by_rule settings tree v = record {
  code = code.Rule v.code;
  message = v.message;
  text_range = v.text_range;
  statement = statement_of tree v.text_range;
  note = v.note;
  help = v.help;
  fix = offered (class_of settings tree v) v.fix;
}

unfoldable pub by_hazard : Tree → Finding → Report
by_hazard tree f = record {
  code = code.Hazard f.hazard;
  message = f.message;
  text_range = f.range;
  statement = statement_of tree f.range;
  note = f.note;
  help = f.help;
  fix = None;
}

-- ---- in one list

abbrev pub start_of : Report → ℕ
start_of r = r.text_range.start

-- these reports of rules, then those of names that cover nothing, and then these findings
abbrev pub with_hazards : LinterSettings → Tree → Rules → HazardSet → List Violation → List Finding → List Report
with_hazards settings tree rules hazards reports found =
    map (by_rule settings tree) (without_hazard_names reports) ++ map (by_rule settings tree) (unused tree rules hazards found)
    ++ map (by_hazard tree) (uncovered tree found)

-- all that is reported of a text, by the place where it begins; what begins at one place stays in that order
abbrev pub all_reports : Tree → Rules → HazardSet → LinterSettings → List Report
all_reports tree rules hazards settings =
    by_key start_of (length tree.text + 1) (with_hazards settings tree rules hazards (reports tree rules settings) (findings_of hazards settings tree))

-- ---- what it leaves

-- the settings are as before, but for the flag
abbrev pub SameButFlag : LinterSettings → LinterSettings → Type 0
SameButFlag old new = record new { assume_in_transaction = old.assume_in_transaction } ≡ old
