-- What assessing a text answers: the reports of a linter, and the work that the text does under locks.
use Rattle.std.specs.Prelude.{◌≡◌, Bool, List}
use Rattle.sql_read.specs.sql_token.Token.{Text}
use Rattle.sql_read.specs.sql_tree.Statement.{Tree}
use Rattle.sql_read.specs.Cause.{IsTreeOf}
use Rattle.fix_edit.specs.lint_base.declared.settings.LinterSettings.{LinterSettings}
use Rattle.fix_edit.specs.lint_base.declared.violation.Violation.{Violation}
use Rattle.fix_edit.specs.lint_base.RuleSets.{Rules}
use Rattle.law_clean.specs.lock_machine.declared.work.Work.{Work}
use Rattle.law_clean.specs.lock_machine.Plain.{plain}
use Rattle.law_clean.specs.lock_machine.Works.{works}
use Rattle.squawk_linter.specs.Answers.{reports}
use Rattle.squawk_linter.specs.Reports.{cleared}

-- the reports, the work in order, and whether the text is plain
pub record Assessment : Type 0 where
  pub violations : List Violation
  pub works : List Work
  pub plain : Bool

-- The answer for a tree: what the linter reports, and the work under its settings, the flag cleared.
abbrev pub assessment : Tree → Rules → LinterSettings → Assessment
assessment tree rules settings = record {
  violations = reports tree rules settings;
  works = works tree (cleared tree settings);
  plain = plain tree;
}

-- this is the answer for a text, which has one tree
pub record IsAssessment (t : Text) (rules : Rules) (settings : LinterSettings) (found : Assessment) : Type 0 where
  pub tree : Tree
  pub of_text : IsTreeOf t tree
  pub is : found ≡ assessment tree rules settings
