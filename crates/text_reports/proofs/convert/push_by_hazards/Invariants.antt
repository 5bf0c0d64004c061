use Rattle.std.proofs.Common.{◌≡◌, ◌++◌, map}
use Rattle.std.specs.Vec.Iter.{into_iter_items}
use Rattle.text_reports.specs.Reports.{by_hazard}
use Rattle.fix_class.specs.statement_place.Statements.{IsCursor}
use Rattle.text_reports.proofs.convert.push_by_hazards.Given as goal

-- what was yielded was added, and the others follow it
abbrev pub invariant-loop-f : goal.invariant-loop-f
invariant-loop-f l = record {
  cursor : IsCursor l.file l.cursor;
  added : l.list.items ≡ l.fn.list.items ++ map (by_hazard l.file) l.yielded;
  others : l.fn.findings.items ≡ l.yielded ++ into_iter_items l.f-iterator;
}
