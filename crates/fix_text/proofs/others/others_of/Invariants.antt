use Rattle.std.proofs.Common.{◌≡◌}
use Rattle.std.specs.List.{find}
use Rattle.std.specs.Prelude.{reverse, slice_get, take}
use Rattle.fix_class.specs.statement_place.Statements.{IsCursor}
use Rattle.fix_text.specs.Others.{IsNumbered, others_back, replaces}
use Rattle.fix_text.proofs.others.others_of.Given as goal

-- what was found among the first reports, and the nearest of them that replaces bytes
abbrev pub invariant-loop-i : goal.invariant-loop-i
invariant-loop-i l = record {
  found : l.others.items ≡ others_back l.wide l.settings l.file (reverse (take l.i l.reports));
  nearest : slice_get l.reports l.last.report ≡ find replaces (reverse (take l.i l.reports));
  cursor : IsCursor l.file l.cursor;
  numbered : IsNumbered l.file l.reports l.last;
}
