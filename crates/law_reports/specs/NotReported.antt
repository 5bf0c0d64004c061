-- Hazards that are not reported.
use Rattle.std.specs.Prelude.{◌≡◌, ◌≢◌, true, false, All}
use Rattle.std.specs.Str.{IsUtf8}
use Rattle.text_reports.specs.hazard_base.declared.hazard.Hazard.{Hazard}
use Rattle.text_reports.specs.hazard_base.declared.hazard_set.HazardSet.{HazardSet}
use Rattle.text_reports.specs.hazard_base.HazardSets.{has}
use Rattle.text_reports.specs.hazard_ignore.Covered.{is_bare, named}
use Rattle.law_hazards.specs.Silence.{IsNotFound}
use Rattle.text_reports.specs.lint_base.declared.settings.LinterSettings.{LinterSettings}
use Rattle.text_reports.specs.lint_base.RuleSets.{Rules}
use Rattle.text_reports.specs.lint_report.declared.code.Code.TheVariants as code
use Rattle.text_reports.specs.sql_tree.Statement.{IsTree, Tree}
use Rattle.text_reports.specs.Reports.{all_reports}

-- The hazard is enabled, no ignore comment of the text is a bare one of the whole file or names the hazard, and no report of the text
-- is of it.
pub record IsNotReported (h : Hazard) (tree : Tree) (rules : Rules) (hazards : HazardSet) (settings : LinterSettings) : Type 0 where
  pub is_enabled : has hazards h ≡ true
  pub no_bare_ignore : is_bare tree ≡ false
  pub no_name : All (λ n. n.hazard ≢ h) (named tree)
  pub no_reports : All (λ r. r.code ≢ code.Hazard h) (all_reports tree rules hazards settings)

-- A hazard that is not reported of a text is not found in it.
abbrev pub NotReportedIsNotFound : Type 0
NotReportedIsNotFound =
    (h : Hazard) (tree : Tree) (rules : Rules) (hazards : HazardSet) (settings : LinterSettings) → IsTree tree → IsUtf8 tree.text
    → IsNotReported h tree rules hazards settings → IsNotFound h hazards settings tree
