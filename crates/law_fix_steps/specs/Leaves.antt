-- One fix of a rule whose fixes are followed: which reports there are then, and where their fixes are.
use Rattle.std.specs.Prelude.{◌<◌, ◌≡◌, ◌^◌, Bool, true, false, List, [], ◌∷◌, length, All, Some}
use Rattle.law_type_fixes.specs.sql_tree.Statement.{Tree, IsTree}
use Rattle.law_type_fixes.specs.lint_base.declared.edit.Edit.{Edit}
use Rattle.law_type_fixes.specs.lint_base.declared.rule.Rule.{Rule}
use Rattle.law_type_fixes.specs.lint_base.declared.rule.Rule.TheVariants as rule
use Rattle.law_type_fixes.specs.lint_base.declared.settings.LinterSettings.{LinterSettings}
use Rattle.law_type_fixes.specs.lint_base.declared.violation.Violation.{Violation}
use Rattle.law_type_fixes.specs.lint_base.Fixes.{FixValue}
use Rattle.law_type_fixes.specs.lint_base.RuleSets.{Rules}
use Rattle.law_type_fixes.specs.law_fixes.Edited.{edited, place_moved}
use Rattle.law_type_fixes.specs.law_fixes.Mended.{Table, builds, dropped, rebuilt}
use Rattle.law_type_fixes.specs.Rules.{type_table, ints, smallints, timestamps, varchars}
use Rattle.law_fix_steps.specs.Kept.{SameAt}
use Rattle.law_fix_steps.specs.Left.{Left}
use Rattle.law_fix_steps.specs.Step.{JoinNoWord, Steps}

-- The rules whose fixes are followed from one text to the next: those of the listed rules on index builds, dropped and rebuilt indexes
-- and column types. Of the others it is only known where their reports are.
abbrev pub is_followed : Rule → Bool
is_followed rule.RequireConcurrentIndexCreation = true
is_followed rule.RequireConcurrentIndexDeletion = true
is_followed rule.RequireConcurrentReindex = true
is_followed rule.PreferBigintOverInt = true
is_followed rule.PreferBigintOverSmallint = true
is_followed rule.PreferTextField = true
is_followed rule.PreferTimestampTz = true
is_followed _ = false

-- their tables
abbrev pub followed_tables : List Table
followed_tables =
    builds ∷ dropped ∷ rebuilt ∷ type_table varchars ∷ type_table timestamps ∷ type_table ints ∷ type_table smallints ∷ []

-- The fix of the report v of a table is a step. All reports of these tables are left, with their fixes, but for those that begin where
-- v begins; and none of its table does then.
pub record Leaves (table : Table) (tree : Tree) (rules : Rules) (settings : LinterSettings) (v : Violation) (edits : List Edit) : Type 0 where
  pub steps : Steps tree rules settings edits
  pub left : All (λ t. Left true (place_moved edits) v.text_range.start (t steps.new rules settings) (t tree rules settings)) followed_tables
  pub silent : All (λ w. SameAt (place_moved edits) w v → ⊥) (table steps.new rules settings)

-- So it is for the fix of this report, if its edits fit and the edited text has less than 2^32 bytes.
abbrev pub FixLeaves : Table → Tree → Rules → LinterSettings → (List Edit → Type 0) → Violation → Type 0
FixLeaves table tree rules settings Fits v =
    (f : FixValue) → v.fix ≡ Some f → Fits f.edits → length (edited tree.text f.edits) < 2 ^ 32 → Leaves table tree rules settings v f.edits

-- So it is for each report of the table, in each tree, whichever rules are enabled and whatever the settings are.
abbrev pub FixesLeave : Table → Type 0
FixesLeave table =
    (tree : Tree) (rules : Rules) (settings : LinterSettings) → IsTree tree →
    All (FixLeaves table tree rules settings (JoinNoWord tree)) (table tree rules settings)
