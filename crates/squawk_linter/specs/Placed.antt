-- Where the reports of an answer and the edits of their fixes are.
use Rattle.std.specs.Prelude.{All, IfSome, List}
use Rattle.sql_read.specs.sql_token.Token.{Text}
use Rattle.sql_read.specs.sql_tree.Statement.{Tree}
use Rattle.fix_edit.specs.lint_base.declared.settings.LinterSettings.{LinterSettings}
use Rattle.fix_edit.specs.lint_base.declared.violation.Violation.{Violation}
use Rattle.fix_edit.specs.lint_base.RuleSets.{Rules}
use Rattle.fix_edit.specs.lint_ignore.Places.{IsPlace}
use Rattle.fix_edit.specs.lint_pass.Laws.{AreEdits, IsRead, IsPlacedIn}
use Rattle.fix_edit.specs.Faults.{AreGood}
use Rattle.squawk_linter.specs.Answers.{reports}
use Rattle.squawk_linter.specs.Laws.{Table}

-- The range of a report is a place of the text, and so is each edit of its fix, one after the other.
pub record IsPlaced (text : Text) (v : Violation) : Type 0 where
  pub range : IsPlace text v.text_range
  pub edits : IfSome v.fix (λ f. AreEdits text f.edits)

-- The reports of a pass, and the edits of their fixes, are at places of the text.
abbrev pub IsPlacedPass : Table → Type 0
IsPlacedPass table = (tree : Tree) (rules : Rules) (settings : LinterSettings) → IsRead tree → All (IsPlacedIn tree) (table tree rules settings)

-- So are those of an answer.
abbrev pub AnswersPlaced : Type 0
AnswersPlaced = (tree : Tree) (rules : Rules) (settings : LinterSettings) → IsRead tree → All (IsPlaced tree.text) (reports tree rules settings)

-- No edit of a fix that is answered is bad: making it gives neither BadRange nor Overlap.
abbrev pub AnsweredFixesAreGood : Type 0
AnsweredFixesAreGood =
    (tree : Tree) (rules : Rules) (settings : LinterSettings) → IsRead tree →
    All (λ v. IfSome v.fix (λ f. AreGood tree.text f.edits)) (reports tree rules settings)
