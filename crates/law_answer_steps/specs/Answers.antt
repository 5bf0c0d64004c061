-- Fixes of an answer as steps.
use Rattle.std.specs.Prelude.{◌≡◌, true, All}
use Rattle.law_fix_steps.specs.sql_tree.Statement.{Tree, IsTree}
use Rattle.law_fix_steps.specs.lint_base.declared.settings.LinterSettings.{LinterSettings}
use Rattle.law_fix_steps.specs.lint_base.RuleSets.{Rules}
use Rattle.law_fix_steps.specs.Listed.{is_listed}
use Rattle.law_fix_steps.specs.Step.{FixSteps, JoinNoWord}
use Rattle.squawk_linter.specs.Answers.{reports}
use Rattle.squawk_linter.specs.Reports.{cleared}

-- The fix of each report of a listed rule that is answered for a tree is a step, if it joins no word. The reports are counted under the
-- settings of the answer, the flag cleared.
abbrev pub AnswersStep : Type 0
AnswersStep =
    (tree : Tree) (rules : Rules) (settings : LinterSettings) → IsTree tree →
    All (λ v. is_listed v.code ≡ true → FixSteps tree rules (cleared tree settings) (JoinNoWord tree) v) (reports tree rules settings)
