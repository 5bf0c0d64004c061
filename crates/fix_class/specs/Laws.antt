-- Laws of the classes: what holds of the text around a statement whose fix is safe, or is offered at all.
use Rattle.std.specs.Prelude.{◌≡◌, ◌<◌, ℕ, true, false, length, Some}
use Rattle.lint_ignore.specs.sql_tree.Statement.{Tree}
use Rattle.lint_report.specs.lint_base.declared.rule.Rule.{Rule}
use Rattle.lint_report.specs.lint_base.declared.rule.Rule.TheVariants as rule
use Rattle.lint_report.specs.lint_base.declared.settings.LinterSettings.{LinterSettings}
use Rattle.lint_report.specs.lint_base.declared.violation.Violation.{Violation}
use Rattle.lint_report.specs.declared.fix_class.FixClass.{FixClass}
use Rattle.lint_report.specs.declared.fix_class.FixClass.TheVariants.{Safe}
use Rattle.lint_transaction.specs.Transaction.{is_open, stmt_at}
use Rattle.statement_place.specs.Statements.{number_behind}
use Rattle.fix_class.specs.Classes.{class_of, is_ascii_in, is_glued}
use Rattle.fix_class.specs.Known.{is_assumed, is_outside_work, limits}

-- ---- safe fixes

-- The fix cuts a name that is too long, as PostgreSQL itself does; the name is no variable of psql, no part of another name, and written in ASCII.
pub record IsNameCut (tree : Tree) (v : Violation) : Type 0 where
  pub rule_is : v.code ≡ rule.IdentifierTooLong
  pub apart : is_glued tree.text v.text_range ≡ false
  pub ascii : is_ascii_in tree.text v.text_range ≡ true

-- A safe fix is such a cut.
abbrev pub SafeFixesCutNames : Type 0
SafeFixesCutNames = (settings : LinterSettings) (tree : Tree) (v : Violation) → class_of settings tree v ≡ Some Safe → IsNameCut tree v

-- ---- fixes that are offered

-- the rules whose fixes have an index built, dropped or rebuilt CONCURRENTLY
pub data IsConcurrentRule : Rule → Type 0 where
  creation : IsConcurrentRule rule.RequireConcurrentIndexCreation
  deletion : IsConcurrentRule rule.RequireConcurrentIndexDeletion
  rebuild : IsConcurrentRule rule.RequireConcurrentReindex

-- No transaction is open before statement i, and no earlier statement sets a timeout.
pub record IsAlone (settings : LinterSettings) (tree : Tree) (i : ℕ) : Type 0 where
  pub outside : is_open (is_assumed settings tree) tree i ≡ false
  pub unlimited : (j : ℕ) → j < i → limits tree (stmt_at tree j) ≡ false

-- Where the fix of such a rule is offered, so it is.
abbrev pub ConcurrentFixesAreAlone : Type 0
ConcurrentFixesAreAlone =
    (settings : LinterSettings) (tree : Tree) (v : Violation) (class : FixClass) → IsConcurrentRule v.code → class_of settings tree v ≡ Some class
    → IsAlone settings tree (number_behind tree v.text_range.start)

-- the rules whose fixes set a timeout
pub data IsTimeoutRule : Rule → Type 0 where
  lock : IsTimeoutRule rule.RequireLockTimeout
  statement : IsTimeoutRule rule.RequireStatementTimeout

-- Where a timeout is offered, no statement of the text works outside of transactions.
abbrev pub TimeoutFixesSpareOutsideWork : Type 0
TimeoutFixesSpareOutsideWork =
    (settings : LinterSettings) (tree : Tree) (v : Violation) (class : FixClass) → IsTimeoutRule v.code → class_of settings tree v ≡ Some class
    → (j : ℕ) → j < length tree.stmts → is_outside_work (stmt_at tree j) ≡ false
