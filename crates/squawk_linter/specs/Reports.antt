-- What a linter answers.
use Rattle.std.specs.Prelude.{ℕ, ◌+◌, Bool, ◌&&◌, not, List, [], ◌++◌, filter, length, if◌then◌else◌}
use Rattle.std.specs.List.{list_any}
use Rattle.sql_read.specs.sql_token.Token.{Text}
use Rattle.sql_read.specs.sql_tree.Statement.{Tree}
use Rattle.fix_edit.specs.lint_base.declared.rule.Rule.TheVariants as rule
use Rattle.fix_edit.specs.lint_base.declared.settings.LinterSettings.{LinterSettings}
use Rattle.fix_edit.specs.lint_base.declared.violation.Violation.{Violation}
use Rattle.fix_edit.specs.lint_base.RuleSets.{Rules, has}
use Rattle.fix_edit.specs.lint_ignore.declared.ignore.Ignore.{Ignore}
use Rattle.fix_edit.specs.lint_ignore.Comment.{has_disable_comment}
use Rattle.fix_edit.specs.lint_ignore.Covered.{is_covered}
use Rattle.fix_edit.specs.lint_ignore.Found.{found_in}
use Rattle.fix_edit.specs.lint_ignore.Index.{is_bare_file}
use Rattle.fix_edit.specs.lint_ignore.Unused.{unused_names}
use Rattle.squawk_linter.specs.ByStart.{by_key}

-- no transaction is assumed to be open where a comment says that none is to be assumed
abbrev pub cleared : Tree → LinterSettings → LinterSettings
cleared tree settings = record settings { assume_in_transaction = settings.assume_in_transaction && not (has_disable_comment tree) }

-- some reports, and then those of the names in ignore comments that name no rule
abbrev pub with_unknown_names : Tree → List Violation → List Violation
with_unknown_names tree x = x ++ (found_in tree).reports

-- no ignore comment covers a report
abbrev pub is_left : Text → List Ignore → Violation → Bool
is_left text ignores v = not (is_covered text ignores v.text_range v.code)

abbrev pub has_bare_file_ignore : List Ignore → Bool
has_bare_file_ignore ignores = list_any is_bare_file ignores

-- the reports of names that cover none of some reports, where these are wanted
abbrev pub unused_of : Tree → List Violation → Rules → List Violation
unused_of tree all rules =
    if has rules rule.UnusedIgnore && not (has_bare_file_ignore (found_in tree).ignores) then unused_names tree all rules else []

-- those of some reports that are not covered, and then those of names that cover none of all
abbrev pub gathered : Tree → List Violation → Rules → List Violation
gathered tree all rules = filter (is_left tree.text (found_in tree).ignores) all ++ unused_of tree all rules

-- the place of a report
abbrev pub start_of : Violation → ℕ
start_of v = v.text_range.start

-- The answer for the reports x of a tree: these and those of unknown names, without what is covered, and with those of
-- names that cover nothing; in the order of their starts, equal starts as they were.
unfoldable pub reports_from : Tree → List Violation → Rules → List Violation
reports_from tree x rules = by_key start_of (length tree.text + 1) (gathered tree (with_unknown_names tree x) rules)
