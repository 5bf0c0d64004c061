-- The printed form of an answer determines the answer.
use Rattle.std.specs.Prelude.{◌≡◌, ℕ, List, ◌++◌}
use Rattle.squawk_linter.specs.sql_tree.Statement.{Tree}
use Rattle.squawk_linter.specs.lint_base.declared.settings.LinterSettings.{LinterSettings}
use Rattle.squawk_linter.specs.lint_base.RuleSets.{Rules}
use Rattle.squawk_linter.specs.lint_pass.Laws.{IsRead}
use Rattle.squawk_linter.specs.Answers.{reports}
use Rattle.squawk_print_locks.specs.squawk_print.Printed.{printed}
use Rattle.squawk_print_locks.specs.squawk_print.PrintedForm.{AllFit}

-- The numbers of an answer are those of the types.
abbrev pub AnswersFit : Type 0
AnswersFit = (tree : Tree) (rules : Rules) (settings : LinterSettings) → IsRead tree → AllFit (reports tree rules settings)

-- What begins with a printed answer begins with no other one, of whichever text, rules and settings, and goes on in one way.
abbrev pub PrintedAnswersTellApart : Type 0
PrintedAnswersTellApart =
    (a b : Tree) (p q : Rules) (x y : LinterSettings) (r s : List ℕ) → IsRead a → IsRead b →
    printed (reports a p x) ++ r ≡ printed (reports b q y) ++ s → (reports a p x ≡ reports b q y) × (r ≡ s)
