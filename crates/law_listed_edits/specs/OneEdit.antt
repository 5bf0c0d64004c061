-- The fixes of the rules whose fixes are known to mend a text: each has one edit.
use Rattle.std.specs.Prelude.{◌≡◌, ◌<◌, All, [], ◌∷◌, Some, IfSome}
use Rattle.law_answers.specs.sql_tree.Statement.{Tree, IsTree}
use Rattle.law_answers.specs.lint_base.declared.edit.Edit.{Edit}
use Rattle.law_answers.specs.lint_base.declared.rule.Rule.{Rule}
use Rattle.law_answers.specs.lint_base.declared.settings.LinterSettings.{LinterSettings}
use Rattle.law_answers.specs.lint_base.declared.violation.Violation.{Violation}
use Rattle.law_answers.specs.lint_base.Fixes.{FixValue}
use Rattle.law_answers.specs.lint_base.RuleSets.{Rules}
use Rattle.law_answers.specs.law_fixes.Mended.{Table}
use Rattle.law_answers.specs.Tables.{mended_table}

-- The fix has one edit, and where it replaces bytes, there are bytes before them.
pub record HasOneEdit (f : FixValue) : Type 0 where
  pub edit : Edit
  pub one : f.edits ≡ edit ∷ []
  pub behind : edit.text_range.start < edit.text_range.end → 0 < edit.text_range.start

-- So it is for the fix of a report.
abbrev pub IsMendedByOne : Violation → Type 0
IsMendedByOne v = (f : FixValue) → v.fix ≡ Some f → HasOneEdit f

-- So it is for each report of a table, in each tree, whichever rules are enabled and whatever the settings are.
abbrev pub AreMendedByOne : Table → Type 0
AreMendedByOne table = (tree : Tree) (rules : Rules) (settings : LinterSettings) → IsTree tree → All IsMendedByOne (table tree rules settings)

-- So it is for the table of each of these rules.
abbrev pub MendedByOne : Type 0
MendedByOne = (r : Rule) → IfSome (mended_table r) AreMendedByOne
