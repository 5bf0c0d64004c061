-- What the fixes of an answer do.
use Rattle.std.specs.Prelude.{◌≡◌, ◌<◌, ◌^◌, All, List, length, Some}
use Rattle.sql_read.specs.sql_tree.Statement.{Tree, IsTree}
use Rattle.fix_edit.specs.lint_base.declared.rule.Rule.{Rule}
use Rattle.fix_edit.specs.lint_base.declared.rule.Rule.TheVariants as rule
use Rattle.fix_edit.specs.lint_base.declared.settings.LinterSettings.{LinterSettings}
use Rattle.fix_edit.specs.lint_base.declared.violation.Violation.{Violation}
use Rattle.fix_edit.specs.lint_base.Fixes.{FixValue}
use Rattle.fix_edit.specs.lint_base.RuleSets.{Rules}
use Rattle.fix_edit.specs.law_fixes.Edited.{edited}
use Rattle.fix_edit.specs.law_fixes.Mended.{Mended, Table, WithWord, builds, dropped, rebuilt, detached}
use Rattle.fix_edit.specs.law_fixes.Timeouts.{SetMended}
use Rattle.fix_edit.specs.law_type_fixes.Mended.{AreApart, WithRun}
use Rattle.fix_edit.specs.law_type_fixes.Rules.{type_table, ints, smallints, timestamps, varchars}
use Rattle.law_answers.specs.Tables.{IsInItsTable}
use Rattle.squawk_linter.specs.Answers.{reports}
use Rattle.squawk_linter.specs.Reports.{cleared}

-- Each entry of an answer is in the table of its rule, under the settings, the flag cleared.
abbrev pub AnswersAreInTheirTables : Type 0
AnswersAreInTheirTables =
    (tree : Tree) (rules : Rules) (settings : LinterSettings) →
    All (IsInItsTable tree rules (cleared tree settings)) (reports tree rules settings)

-- The text that the fix makes is mended for the rule of a table on words, or on column types.
abbrev pub WordMended : Table → Tree → Rules → LinterSettings → Violation → FixValue → Type 0
WordMended table tree rules settings v f = Mended table tree rules settings v f.edits (WithWord tree f.edits)

abbrev pub TypeMended : Table → Tree → Rules → LinterSettings → Violation → FixValue → Type 0
TypeMended table tree rules settings v f = AreApart tree.text f.edits → Mended table tree rules settings v f.edits (WithRun tree f.edits)

-- It is, for these rules; nothing is said of the others.
abbrev pub MendedFor : Rule → Tree → Rules → LinterSettings → Violation → FixValue → Type 0
MendedFor rule.RequireConcurrentIndexCreation tree rules settings v f = WordMended builds tree rules settings v f
MendedFor rule.RequireConcurrentIndexDeletion tree rules settings v f = WordMended dropped tree rules settings v f
MendedFor rule.RequireConcurrentReindex tree rules settings v f = WordMended rebuilt tree rules settings v f
MendedFor rule.RequireConcurrentPartitionDetach tree rules settings v f = WordMended detached tree rules settings v f
MendedFor rule.RequireLockTimeout tree rules settings v f = SetMended v.code tree rules f.edits
MendedFor rule.RequireStatementTimeout tree rules settings v f = SetMended v.code tree rules f.edits
MendedFor rule.PreferTextField tree rules settings v f = TypeMended (type_table varchars) tree rules settings v f
MendedFor rule.PreferTimestampTz tree rules settings v f = TypeMended (type_table timestamps) tree rules settings v f
MendedFor rule.PreferBigintOverInt tree rules settings v f = TypeMended (type_table ints) tree rules settings v f
MendedFor rule.PreferBigintOverSmallint tree rules settings v f = TypeMended (type_table smallints) tree rules settings v f
MendedFor _ tree rules settings v f = Unit {0}

-- So it is for each fix of an answer, if the text that it makes has less than 2^32 bytes.
abbrev pub AnsweredFixesMend : Type 0
AnsweredFixesMend =
    (tree : Tree) (rules : Rules) (settings : LinterSettings) → IsTree tree →
    All (λ v. (f : FixValue) → v.fix ≡ Some f → length (edited tree.text f.edits) < 2 ^ 32 → MendedFor v.code tree rules (cleared tree settings) v f)
    (reports tree rules settings)
