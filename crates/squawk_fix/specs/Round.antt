-- Many fixes of one answer.
use Rattle.std.specs.Prelude.{◌≡◌, ◌⊎◌, ◌≤◌, ◌<◌, ℕ, ◌+◌, Bool, true, false, ◌&&◌, nat_le, nat_lt, if◌then◌else◌, List, [], ◌∷◌, Some}
use Rattle.law_next_fix.specs.sql_token.Token.{Text}
use Rattle.law_next_fix.specs.sql_tree.Statement.{Tree}
use Rattle.law_next_fix.specs.sql_read.Cause.{IsTreeOf}
use Rattle.squawk_run.specs.lint_base.declared.edit.Edit.{Edit}
use Rattle.squawk_run.specs.lint_base.declared.settings.LinterSettings.{LinterSettings}
use Rattle.squawk_run.specs.lint_base.declared.violation.Violation.{Violation}
use Rattle.squawk_run.specs.lint_base.Fixes.{FixValue}
use Rattle.squawk_run.specs.lint_base.RuleSets.{Rules}
use Rattle.law_next_fix.specs.law_fix_steps.Leaves.{is_followed}
use Rattle.law_next_fix.specs.law_fix_steps.Listed.{is_listed}
use Rattle.law_next_fix.specs.law_fix_steps.Step.{has_ignore_comment, load}
use Rattle.law_next_fix.specs.fix_choice.Fits.{made_by, next_text}
use Rattle.law_next_fix.specs.squawk_linter.Answers.{reports}
use Rattle.law_next_fix.specs.squawk_linter.Reports.{cleared}
use Rattle.squawk_fix.specs.Fixing.{Reached}

-- ---- which fix is next

-- the next report of a listed rule, if there is one, begins after the first of these places, and not before the second
abbrev pub comes_first : ℕ → ℕ → List Violation → Bool
comes_first start end [] = true
comes_first start end (v ∷ vs) = if is_listed v.code then nat_lt start v.text_range.start && nat_le end v.text_range.start else comes_first start end vs

-- The fix of the report has this edit and no other.
pub record HasOnly (v : Violation) (e : Edit) : Type 0 where
  pub fix : FixValue
  pub has : v.fix ≡ Some fix
  pub one : fix.edits ≡ e ∷ []

-- The rule's fixes are followed, and what comes later begins behind the report and its edit.
pub record IsReady (v : Violation) (later : List Violation) (e : Edit) : Type 0 where
  pub followed : is_followed v.code ≡ true
  pub only : HasOnly v e
  pub first : comes_first v.text_range.start e.text_range.end later ≡ true

-- The fix has one edit, which is e, where a text of one length became one of another length before it.
pub record IsMoved (from to : ℕ) (e : Edit) (f : FixValue) : Type 0 where
  pub edit : Edit
  pub one : f.edits ≡ edit ∷ []
  pub text : edit.text ≡ e.text
  pub start : edit.text_range.start + from ≡ e.text_range.start + to
  pub end : edit.text_range.end + from ≡ e.text_range.end + to

-- It is that of a report that is ready.
pub record IsNextFix (v : Violation) (later : List Violation) (from to : ℕ) (f : FixValue) : Type 0 where
  pub edit : Edit
  pub ready : IsReady v later edit
  pub moved : IsMoved from to edit f

-- The text s is t with such a fix made, which fits; t has this length.
pub record IsNextText (v : Violation) (later : List Violation) (from to : ℕ) (t s : Text) : Type 0 where
  pub fix : FixValue
  pub next : IsNextFix v later from to fix
  pub made : made_by t fix ≡ Some s

-- ---- a round

-- These are the reports of a text without ignore comments, under settings that it leaves as they are.
pub record Answered (text : Text) (vs : List Violation) : Type 0 where
  pub rules : Rules
  pub settings : LinterSettings
  pub tree : Tree
  pub of_text : IsTreeOf text tree
  pub same : cleared tree settings ≡ settings
  pub plain : has_ignore_comment tree ≡ false
  pub are : vs ≡ reports tree rules settings

-- The text s is reached from there by so many steps.
pub record Ran (text : Text) (vs : List Violation) (a : Answered text vs) (s : Text) (applied : ℕ) : Type 0 where
  pub tree : Tree
  pub of_text : IsTreeOf s tree
  pub same : cleared tree a.settings ≡ a.settings
  pub plain : has_ignore_comment tree ≡ false
  pub reached : Reached a.rules a.settings text applied s
  pub few : applied + load tree a.rules a.settings ≤ load a.tree a.rules a.settings

-- One step or more were made: the first one of these reports, or, if the text is known to have no ignore comment, some.
pub record IsRound (plain : Bool) (text : Text) (vs : List Violation) (s : Text) (applied : ℕ) : Type 0 where
  pub some : 0 < applied
  pub made : ((next_text text vs ≡ Some s) × (applied ≡ 1)) ⊎ ((plain ≡ true) × ((a : Answered text vs) → Ran text vs a s applied))
