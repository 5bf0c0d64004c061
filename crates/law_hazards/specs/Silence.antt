-- Texts in which a hazard is looked for and not found.
use Rattle.std.specs.Prelude.{◌≡◌, ◌≢◌, Bool, true, ◌&&◌, not, All}
use Rattle.law_renumber.specs.sql_tree.Statement.{Tree}
use Rattle.hazard_find.specs.lint_base.declared.settings.LinterSettings.{LinterSettings}
use Rattle.hazard_find.specs.lint_ignore.Comment.{has_disable_comment}
use Rattle.hazard_find.specs.hazard_base.declared.hazard.Hazard.{Hazard}
use Rattle.hazard_find.specs.hazard_base.declared.hazard_set.HazardSet.{HazardSet}
use Rattle.hazard_find.specs.hazard_base.HazardSets.{has}
use Rattle.hazard_find.specs.Findings.{findings_of}

-- The hazard is enabled, and no finding of the text is of it.
pub record IsNotFound (h : Hazard) (enabled : HazardSet) (settings : LinterSettings) (tree : Tree) : Type 0 where
  pub is_enabled : has enabled h ≡ true
  pub no_findings : All (λ f. f.hazard ≢ h) (findings_of enabled settings tree)

-- The text begins in a transaction: the settings say so, and no comment of the text says that it does not.
abbrev pub begins_inside : LinterSettings → Tree → Bool
begins_inside settings tree = settings.assume_in_transaction && not (has_disable_comment tree)
