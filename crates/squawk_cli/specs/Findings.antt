-- What a run finds in a text.
use Rattle.std.specs.Prelude.{◌≡◌, Bool, List, Option, Some, None, if◌then◌else◌}
use Rattle.squawk_linter.specs.sql_token.Token.{Text}
use Rattle.squawk_linter.specs.sql_tree.Statement.{Tree}
use Rattle.squawk_linter.specs.sql_read.Cause.{IsTreeOf}
use Rattle.squawk_linter.specs.lint_base.declared.settings.LinterSettings.{LinterSettings}
use Rattle.squawk_linter.specs.lint_base.declared.violation.Violation.{Violation}
use Rattle.squawk_linter.specs.lint_base.RuleSets.{Rules}
use Rattle.squawk_linter.specs.lock_machine.declared.work.Work.{Work}
use Rattle.squawk_linter.specs.Assessments.{Assessment, assessment}

-- the work of a text under locks, in order, and whether the text is plain
pub record LocksValue : Type 0 where
  pub works : List Work
  pub plain : Bool

-- the reports of a text, and its locks where they are asked for
pub record FindingsValue : Type 0 where
  pub violations : List Violation
  pub locks : Option LocksValue

-- what is kept of an assessment
abbrev pub findings_by : Bool → Assessment → FindingsValue
findings_by locks a = record {
  violations = a.violations;
  locks = if locks then Some (record { works = a.works; plain = a.plain }) else None;
}

-- This is found in a text, which has one tree: what a linter reports, and the locks where they are asked for.
pub record AreFoundIn (locks : Bool) (t : Text) (rules : Rules) (settings : LinterSettings) (found : FindingsValue) : Type 0 where
  pub tree : Tree
  pub of_text : IsTreeOf t tree
  pub is : found ≡ findings_by locks (assessment tree rules settings)
