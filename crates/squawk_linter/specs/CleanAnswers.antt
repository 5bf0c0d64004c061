-- What an answer without reports means.
use Rattle.std.specs.Prelude.{◌≡◌, Bool, true, All, List, []}
use Rattle.sql_read.specs.sql_tree.Statement.{Tree}
use Rattle.fix_edit.specs.lint_base.declared.settings.LinterSettings.{LinterSettings}
use Rattle.fix_edit.specs.lint_base.declared.violation.Violation.{Violation}
use Rattle.fix_edit.specs.lint_base.RuleSets.{Rules}
use Rattle.fix_edit.specs.lint_pass.Laws.{IsRead}
use Rattle.fix_edit.specs.lint_pass.Ranges.{AllLieIn}
use Rattle.law_clean.specs.Clean.{HasDefaults, IsYoung}
use Rattle.law_clean.specs.Validations.{ValidatesApart}
use Rattle.law_clean.specs.lock_machine.declared.work.Work.{Work}
use Rattle.law_clean.specs.lock_machine.Plain.{plain}
use Rattle.law_clean.specs.lock_machine.Works.{works}
use Rattle.squawk_linter.specs.Answers.{reports}
use Rattle.squawk_linter.specs.Headline.{HasNoIgnoreComment}
use Rattle.squawk_linter.specs.Laws.{Table}
use Rattle.squawk_linter.specs.Reports.{cleared}

-- A clean answer: the rules of the default set are enabled, no ignore comment is in the text, it is plain, and nothing is
-- reported of it.
pub record IsCleanAnswer (tree : Tree) (rules : Rules) (violations : List Violation) (is_plain : Bool) : Type 0 where
  pub has_defaults : HasDefaults rules
  pub no_comments : HasNoIgnoreComment tree
  pub plain_text : is_plain ≡ true
  pub no_reports : violations ≡ []

-- All listed work of a text is on tables that nobody else knows, and no constraint is validated in the open transaction that
-- added it as not valid.
pub record WorksAlone (tree : Tree) (settings : LinterSettings) (works : List Work) : Type 0 where
  pub young : All IsYoung works
  pub apart : ValidatesApart (cleared tree settings).assume_in_transaction tree

-- A text with a clean answer works alone.
abbrev pub CleanAnswersWorkAlone : Type 0
CleanAnswersWorkAlone =
    (tree : Tree) (rules : Rules) (settings : LinterSettings) → IsRead tree
    → IsCleanAnswer tree rules (reports tree rules settings) (plain tree) → WorksAlone tree settings (works tree (cleared tree settings))

-- The reports of a pass lie in the text.
abbrev pub ReportsLie : Table → Type 0
ReportsLie table =
    (tree : Tree) (rules : Rules) (settings : LinterSettings) → IsRead tree → AllLieIn tree (table tree rules settings)
