-- The fixes of an answer that are made one after another: those of listed rules that fit.
use Rattle.std.specs.Prelude.{◌≡◌, ◌<◌, ◌^◌, true, All, length, Some}
use Rattle.fix_choice.specs.sql_token.Token.{Text}
use Rattle.fix_choice.specs.sql_tree.Statement.{Tree, IsTree}
use Rattle.fix_choice.specs.lint_base.declared.settings.LinterSettings.{LinterSettings}
use Rattle.fix_choice.specs.lint_base.declared.violation.Violation.{Violation}
use Rattle.fix_choice.specs.lint_base.Fixes.{FixValue}
use Rattle.fix_choice.specs.lint_base.RuleSets.{Rules}
use Rattle.fix_choice.specs.lint_pass.Laws.{IsRead}
use Rattle.fix_choice.specs.law_fixes.Edited.{edited}
use Rattle.fix_choice.specs.law_fix_steps.Listed.{is_listed}
use Rattle.fix_choice.specs.law_fix_steps.Step.{JoinNoWord, Steps}
use Rattle.fix_choice.specs.Fits.{ListedCanBeTried, fits}
use Rattle.law_answer_steps.specs.squawk_linter.Answers.{reports}
use Rattle.law_answer_steps.specs.squawk_linter.Reports.{cleared}

-- ---- before it is tried

-- The fix of each report of a listed rule that is answered for a text can be tried in that text.
abbrev pub AnswersCanBeTried : Type 0
AnswersCanBeTried =
    (tree : Tree) (rules : Rules) (settings : LinterSettings) → IsRead tree → All (ListedCanBeTried tree.text) (reports tree rules settings)

-- ---- what fitting tells

-- P holds of the fix of this report, if its rule is listed and the fix fits.
abbrev pub IfFitting : Text → (FixValue → Type 0) → Violation → Type 0
IfFitting text P v = is_listed v.code ≡ true → (f : FixValue) → v.fix ≡ Some f → fits text f ≡ true → P f

-- The fix is as a step asks: its edits join no word, and the text that they make has less than 2^32 bytes.
pub record MayStep (tree : Tree) (f : FixValue) : Type 0 where
  pub apart : JoinNoWord tree f.edits
  pub short : length (edited tree.text f.edits) < 2 ^ 32

-- So is each fix of a listed rule that is answered for a tree, if it fits.
abbrev pub FittingFixesMayStep : Type 0
FittingFixesMayStep =
    (tree : Tree) (rules : Rules) (settings : LinterSettings) → IsTree tree → All (IfFitting tree.text (MayStep tree)) (reports tree rules settings)

-- Each fix of a listed rule that is answered for a tree is a step, if it fits. The reports are counted under the settings of the answer,
-- the flag cleared.
abbrev pub FittingFixesStep : Type 0
FittingFixesStep =
    (tree : Tree) (rules : Rules) (settings : LinterSettings) → IsTree tree →
    All (IfFitting tree.text (λ f. Steps tree rules (cleared tree settings) f.edits)) (reports tree rules settings)
