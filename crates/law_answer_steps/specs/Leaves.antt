-- One fix of an answer, and the answer for the text that it makes.
use Rattle.std.specs.Prelude.{◌≡◌, ◌≤◌, ◌<◌, ◌⊎◌, ◌^◌, ℕ, true, All, Contains, List, [], ◌∷◌, length, Some}
use Rattle.std.specs.Str.{IsUtf8}
use Rattle.law_fix_steps.specs.sql_tree.Statement.{Tree}
use Rattle.law_fix_steps.specs.lint_base.declared.edit.Edit.{Edit}
use Rattle.law_fix_steps.specs.lint_base.declared.settings.LinterSettings.{LinterSettings}
use Rattle.law_fix_steps.specs.lint_base.declared.violation.Violation.{Violation}
use Rattle.law_fix_steps.specs.lint_base.Fixes.{FixValue}
use Rattle.law_fix_steps.specs.lint_base.RuleSets.{Rules}
use Rattle.law_fix_steps.specs.lint_pass.Laws.{IsRead}
use Rattle.law_fix_steps.specs.law_fixes.Edited.{edited, place_moved}
use Rattle.law_fix_steps.specs.Kept.{SameAt}
use Rattle.law_fix_steps.specs.Leaves.{is_followed}
use Rattle.law_fix_steps.specs.Left.{FixFollows}
use Rattle.law_fix_steps.specs.Listed.{is_listed}
use Rattle.law_fix_steps.specs.Step.{JoinNoWord, Steps}
use Rattle.squawk_linter.specs.Answers.{reports}
use Rattle.squawk_linter.specs.Headline.{HasNoIgnoreComment}
use Rattle.squawk_linter.specs.Reports.{cleared, start_of}

-- ---- the order of an answer

-- The reports are in the order of their starts.
abbrev pub Ascend : List Violation → Type 0
Ascend [] = Unit {0}
Ascend (v ∷ vs) = All (λ w. start_of v ≤ start_of w) vs × Ascend vs

-- So they are in each answer.
abbrev pub AnswersAscend : Type 0
AnswersAscend = (tree : Tree) (rules : Rules) (settings : LinterSettings) → Ascend (reports tree rules settings)

-- ---- one fix

-- The report w is of the rule of u, and begins where u began, moved. If the rule's fixes are followed, its fix keeps its distance.
pub record Comes (move : ℕ → ℕ) (w u : Violation) : Type 0 where
  pub same : SameAt move w u
  pub fix : is_followed u.code ≡ true → FixFollows w.text_range.start u.text_range.start w.fix u.fix

-- The report w comes from one of the reports us. It is not the report v.
pub record ComesFrom (move : ℕ → ℕ) (us : List Violation) (v w : Violation) : Type 0 where
  pub old : Violation
  pub there : Contains us old
  pub comes : Comes move w old
  pub other : SameAt move w v → ⊥

-- The report u begins at the place `gone`, or one of the reports ws comes from it.
abbrev pub IsLeft : (ℕ → ℕ) → ℕ → List Violation → Violation → Type 0
IsLeft move gone ws u = (u.text_range.start ≡ gone) ⊎ ((w : Violation) × Contains ws w × Comes move w u)

-- The fix of the report v of an answer is a step. Each report of a listed rule in the new answer comes from one in the old one, and is not
-- v. Each report in the old answer of a rule whose fixes are followed is left, if it does not begin where v begins.
pub record AnswerLeaves (tree : Tree) (rules : Rules) (settings : LinterSettings) (v : Violation) (edits : List Edit) : Type 0 where
  pub steps : Steps tree rules settings edits
  pub plain : HasNoIgnoreComment steps.new
  pub same : cleared steps.new settings ≡ settings
  pub from : All (λ w. is_listed w.code ≡ true → ComesFrom (place_moved edits) (reports tree rules settings) v w) (reports steps.new rules settings)
  pub left : All (λ u. is_followed u.code ≡ true → IsLeft (place_moved edits) v.text_range.start (reports steps.new rules settings) u) (reports tree rules settings)

-- So it is for this fix, if it joins no word and the edited text has less than 2^32 bytes.
abbrev pub FixLeavesAnswer : Tree → Rules → LinterSettings → Violation → FixValue → Type 0
FixLeavesAnswer tree rules settings v f =
    v.fix ≡ Some f → JoinNoWord tree f.edits → length (edited tree.text f.edits) < 2 ^ 32 → IsUtf8 (edited tree.text f.edits) →
    AnswerLeaves tree rules settings v f.edits

-- So it is for each report of a rule whose fixes are followed, in each text without ignore comments, under settings that the text leaves
-- as they are.
abbrev pub AnswersLeave : Type 0
AnswersLeave =
    (tree : Tree) (rules : Rules) (settings : LinterSettings) → IsRead tree → HasNoIgnoreComment tree → cleared tree settings ≡ settings →
    All (λ v. is_followed v.code ≡ true → (f : FixValue) → FixLeavesAnswer tree rules settings v f) (reports tree rules settings)
