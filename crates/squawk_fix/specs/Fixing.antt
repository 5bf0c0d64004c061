-- Repeated fixing: which texts are reached from a text, and when it has ended.
use Rattle.std.specs.Prelude.{◌≡◌, ◌≤◌, ℕ, zero, suc, List, Some, None}
use Rattle.law_next_fix.specs.sql_token.Token.{Text}
use Rattle.law_next_fix.specs.sql_tree.Statement.{Tree}
use Rattle.law_next_fix.specs.sql_read.Cause.{IsTreeOf}
use Rattle.squawk_run.specs.lint_base.declared.settings.LinterSettings.{LinterSettings}
use Rattle.squawk_run.specs.lint_base.declared.violation.Violation.{Violation}
use Rattle.squawk_run.specs.lint_base.Fixes.{FixValue}
use Rattle.squawk_run.specs.lint_base.RuleSets.{Rules}
use Rattle.law_next_fix.specs.law_fixes.Edited.{edited}
use Rattle.law_next_fix.specs.law_fix_steps.Step.{load}
use Rattle.law_next_fix.specs.fix_choice.Fits.{first_fitting}
use Rattle.law_next_fix.specs.squawk_linter.Answers.{IsAnswer}
use Rattle.law_next_fix.specs.squawk_linter.Reports.{cleared}

-- The text s is t with the first fix made that is of a listed rule and fits, in the order of the reports of t.
pub record IsStep (rules : Rules) (settings : LinterSettings) (t s : Text) : Type 0 where
  pub reports : List Violation
  pub answer : IsAnswer t rules settings reports
  pub fix : FixValue
  pub first : first_fitting t reports ≡ Some fix
  pub made : s ≡ edited t fix.edits

-- The text s is reached from t by so many steps.
abbrev pub Reached : Rules → LinterSettings → Text → ℕ → Text → Type 0
Reached rules settings t zero s = s ≡ t
Reached rules settings t (suc n) s = (m : Text) × Reached rules settings t n m × IsStep rules settings m s

-- what fixing makes of a text: the text in the end, how many fixes were made, and what is still reported
pub record FixedValue : Type 0 where
  pub text : Text
  pub applied : ℕ
  pub left : List Violation

-- Fixing has ended: the text is reached by the steps that are counted, no more than the load of the given text; these are its reports,
-- and none of them has a fix for one step more. All under the settings that the given text leaves, its flag cleared.
pub record IsFixed (tree : Tree) (rules : Rules) (settings : LinterSettings) (fixed : FixedValue) : Type 0 where
  pub reached : Reached rules (cleared tree settings) tree.text fixed.applied fixed.text
  pub few : fixed.applied ≤ load tree rules (cleared tree settings)
  pub left : IsAnswer fixed.text rules (cleared tree settings) fixed.left
  pub last : first_fitting fixed.text fixed.left ≡ None

-- So it is for the tree of a text, which is one.
pub record IsFixedText (t : Text) (rules : Rules) (settings : LinterSettings) (fixed : FixedValue) : Type 0 where
  pub tree : Tree
  pub of_text : IsTreeOf t tree
  pub is : IsFixed tree rules settings fixed
