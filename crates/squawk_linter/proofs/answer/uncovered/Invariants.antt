use Rattle.std.proofs.Common.{◌≡◌, ◌++◌, List}
use Rattle.std.specs.Prelude.{filter}
use Rattle.std.specs.Vec.Iter.{into_iter_items}
use Rattle.sql_read.specs.sql_token.Token.{Text}
use Rattle.fix_edit.specs.lint_ignore.declared.ignore.Ignore.{Ignore}
use Rattle.fix_edit.specs.lint_ignore.Index.{IsIndexOf}
use Rattle.squawk_linter.specs.Reports.{is_left}
use Rattle.squawk_linter.proofs.answer.uncovered.Given as goal

-- what is kept, and then what is to be kept of the others
abbrev pub invariant-loop-report : goal.invariant-loop-report
invariant-loop-report l = (text : Text) (ignores : List Ignore) → IsIndexOf l.index text ignores → l.kept ++ filter (is_left text ignores) (into_iter_items l.report-iterator) ≡ filter (is_left text ignores) l.fn.all
