-- What it means that nothing at all is reported of a text.
use Rattle.std.specs.Prelude.{◌≡◌, true, []}
use Rattle.text_reports.specs.hazard_base.declared.hazard_set.HazardSet.{HazardSet}
use Rattle.text_reports.specs.law_clean.Clean.{HasDefaults}
use Rattle.text_reports.specs.lint_base.declared.settings.LinterSettings.{LinterSettings}
use Rattle.text_reports.specs.lint_base.RuleSets.{Rules}
use Rattle.text_reports.specs.lint_pass.Laws.{IsRead}
use Rattle.text_reports.specs.lock_machine.Plain.{plain}
use Rattle.text_reports.specs.lock_machine.Works.{works}
use Rattle.text_reports.specs.sql_tree.Statement.{Tree}
use Rattle.text_reports.specs.squawk_linter.CleanAnswers.{WorksAlone}
use Rattle.text_reports.specs.squawk_linter.Headline.{HasNoIgnoreComment}
use Rattle.text_reports.specs.squawk_linter.Reports.{cleared}
use Rattle.text_reports.specs.Reports.{all_reports}

-- A clean text: the rules of the default set are enabled, no ignore comment is in the text, it is plain, and neither a rule nor a
-- hazard is reported of it.
pub record IsCleanText (tree : Tree) (rules : Rules) (hazards : HazardSet) (settings : LinterSettings) : Type 0 where
  pub has_defaults : HasDefaults rules
  pub no_comments : HasNoIgnoreComment tree
  pub plain_text : plain tree ≡ true
  pub no_reports : all_reports tree rules hazards settings ≡ []

-- A clean text works alone, whichever hazards are looked for.
abbrev pub CleanTextsWorkAlone : Type 0
CleanTextsWorkAlone =
    (tree : Tree) (rules : Rules) (hazards : HazardSet) (settings : LinterSettings) → IsRead tree → IsCleanText tree rules hazards settings
    → WorksAlone tree settings (works tree (cleared tree settings))
