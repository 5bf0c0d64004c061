use Rattle.std.proofs.Common.{◌≡◌, ◌++◌, map}
use Rattle.std.specs.Vec.Iter.{into_iter_items}
use Rattle.fix_class.specs.Known.{AreKnown}
use Rattle.squawk_linter.specs.lint_base.declared.settings.LinterSettings.{LinterSettings}
use Rattle.text_reports.specs.Reports.{by_rule}
use Rattle.fix_class.specs.statement_place.Statements.{IsCursor}
use Rattle.text_reports.proofs.convert.push_by_rules.Given as goal

-- what was yielded was added, and the others follow it
abbrev pub invariant-loop-v : goal.invariant-loop-v
invariant-loop-v l = record {
  cursor : IsCursor l.file l.cursor;
  added : (settings : LinterSettings) → AreKnown settings l.file l.classes → l.list.items ≡ l.fn.list.items ++ map (by_rule settings l.file) l.yielded;
  others : l.fn.reports.items ≡ l.yielded ++ into_iter_items l.v-iterator;
}
