-- Repeated fixing by classes: which texts are reached from a text, and when it has ended.
use Rattle.std.specs.Prelude.{◌≡◌, ◌≤◌, ℕ, zero, suc, Bool, List, Option, Some, None}
use Rattle.fix_class.specs.sql_token.Token.{Text}
use Rattle.fix_class.specs.sql_tree.Statement.{Tree}
use Rattle.law_next_fix.specs.sql_read.Cause.{IsTreeOf}
use Rattle.other_fix.specs.lint_base.declared.settings.LinterSettings.{LinterSettings}
use Rattle.other_fix.specs.lint_base.declared.violation.Violation.{Violation}
use Rattle.other_fix.specs.lint_base.Fixes.{FixValue}
use Rattle.other_fix.specs.lint_base.RuleSets.{Rules}
use Rattle.law_next_fix.specs.law_fixes.Edited.{edited}
use Rattle.law_next_fix.specs.law_fix_steps.Step.{load}
use Rattle.law_next_fix.specs.fix_choice.Fits.{first_fitting, next_text}
use Rattle.law_next_fix.specs.squawk_linter.Answers.{reports}
use Rattle.law_next_fix.specs.squawk_linter.Reports.{cleared}
use Rattle.fix_text.specs.Allowed.{allowed}
use Rattle.fix_text.specs.Others.{others_of}
use Rattle.other_fix.specs.declared.other.OtherFix.{OtherFix}

-- The text s is t with the first fix made that is allowed, of a listed rule, and fits, in the order of the reports of t.
pub record IsStep (wide : Bool) (rules : Rules) (settings : LinterSettings) (t s : Text) : Type 0 where
  pub tree : Tree
  pub of_text : IsTreeOf t tree
  pub fix : FixValue
  pub first : first_fitting t (allowed wide settings tree (reports tree rules settings)) ≡ Some fix
  pub made : s ≡ edited t fix.edits

-- The text s is reached from t by so many steps.
abbrev pub Reached : Bool → Rules → LinterSettings → Text → ℕ → Text → Type 0
Reached wide rules settings t zero s = s ≡ t
Reached wide rules settings t (suc n) s = (m : Text) × Reached wide rules settings t n m × IsStep wide rules settings m s

-- what is found of a text: its reports, and the text with the next allowed fix made, if there is one
pub record IsLook (wide : Bool) (rules : Rules) (settings : LinterSettings) (t : Text) (left : List Violation) (next : Option Text) : Type 0 where
  pub tree : Tree
  pub of_text : IsTreeOf t tree
  pub left_is : left ≡ reports tree rules settings
  pub next_is : next ≡ next_text t (allowed wide settings tree left)

-- what fixing makes of a text: the text in the end, how many fixes were made, what is still reported, and which fixes of the given text
-- change the same bytes as one that comes first
pub record FixedValue : Type 0 where
  pub text : Text
  pub applied : ℕ
  pub left : List Violation
  pub others : List OtherFix

-- Fixing has ended: the text is reached by the steps that are counted, no more than the load of the given text; these are its reports,
-- and none of them has a fix for one step more. The fixes that are not made beside another one are those of the reports of the given text.
-- All under the settings that the given text leaves, its flag cleared.
pub record IsFixed (tree : Tree) (wide : Bool) (rules : Rules) (settings : LinterSettings) (fixed : FixedValue) : Type 0 where
  pub reached : Reached wide rules (cleared tree settings) tree.text fixed.applied fixed.text
  pub few : fixed.applied ≤ load tree rules (cleared tree settings)
  pub ended : IsLook wide rules (cleared tree settings) fixed.text fixed.left None
  pub others_are : fixed.others ≡ others_of wide (cleared tree settings) tree (reports tree rules (cleared tree settings))

-- So it is for the tree of a text, which is one.
pub record IsFixedText (t : Text) (wide : Bool) (rules : Rules) (settings : LinterSettings) (fixed : FixedValue) : Type 0 where
  pub tree : Tree
  pub of_text : IsTreeOf t tree
  pub is : IsFixed tree wide rules settings fixed
