use Rattle.std.proofs.Common.{◌≡◌, drop}
use Rattle.law_next_fix.specs.fix_choice.Fits.{next_text}
use Rattle.fix_class.specs.statement_place.Statements.{IsCursor}
use Rattle.fix_text.specs.Allowed.{allowed}
use Rattle.fix_text.proofs.choose.next_allowed.Given as goal

-- the fixes so far are not the next one
abbrev pub invariant-loop-report : goal.invariant-loop-report
invariant-loop-report l = record {
  cursor : IsCursor l.file l.cursor;
  left : next_text l.file.text (allowed l.wide l.settings l.file (drop l.report-index l.reports)) ≡ next_text l.file.text (allowed l.wide l.settings l.file l.reports);
}
