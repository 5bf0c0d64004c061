-- The order of all reports of a text.
use Rattle.std.specs.List.Sorted.{IsNonDecreasingBy}
use Rattle.text_reports.specs.hazard_base.declared.hazard_set.HazardSet.{HazardSet}
use Rattle.text_reports.specs.lint_base.declared.settings.LinterSettings.{LinterSettings}
use Rattle.text_reports.specs.lint_base.RuleSets.{Rules}
use Rattle.text_reports.specs.sql_tree.Statement.{Tree}
use Rattle.text_reports.specs.Reports.{all_reports, start_of}

-- Of two reports of a text, the later one in the list does not begin before the other.
abbrev pub ReportsAscend : Type 0
ReportsAscend =
    (tree : Tree) (rules : Rules) (hazards : HazardSet) (settings : LinterSettings) → IsNonDecreasingBy start_of (all_reports tree rules hazards settings)
