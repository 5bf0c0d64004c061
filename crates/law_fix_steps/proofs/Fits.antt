-- What is asked of the edits of a fix that is a step.
use Rattle.std.specs.Prelude.{List, All}
use Rattle.law_type_fixes.specs.sql_tree.Statement.{Tree, IsTree}
use Rattle.law_type_fixes.specs.lint_base.declared.edit.Edit.{Edit}
use Rattle.law_type_fixes.specs.lint_base.declared.settings.LinterSettings.{LinterSettings}
use Rattle.law_type_fixes.specs.lint_base.RuleSets.{Rules}
use Rattle.law_type_fixes.specs.law_fixes.Mended.{Table}
use Rattle.law_type_fixes.specs.Mended.{AreApart}
use Rattle.law_fix_steps.specs.Leaves.{FixLeaves}
use Rattle.law_fix_steps.specs.Step.{FixSteps}

-- The fix of each report of a table is a step, if its edits fit.
abbrev pub StepsIf : (Tree → List Edit → Type 0) → Table → Type 0
StepsIf Fits table =
    (tree : Tree) (rules : Rules) (settings : LinterSettings) → IsTree tree → All (FixSteps tree rules settings (Fits tree)) (table tree rules settings)

-- The same, and all other reports are left.
abbrev pub LeavesIf : (Tree → List Edit → Type 0) → Table → Type 0
LeavesIf Fits table =
    (tree : Tree) (rules : Rules) (settings : LinterSettings) → IsTree tree → All (FixLeaves table tree rules settings (Fits tree)) (table tree rules settings)

-- An insertion asks for nothing.
abbrev pub Anywhere : Tree → List Edit → Type 0
Anywhere tree edits = Unit {0}

-- A replacement is to join no word.
abbrev pub BetweenWords : Tree → List Edit → Type 0
BetweenWords tree edits = AreApart tree.text edits
