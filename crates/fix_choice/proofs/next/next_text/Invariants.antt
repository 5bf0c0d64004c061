use Rattle.std.proofs.Common.{◌≡◌, drop}
use Rattle.fix_choice.specs.Fits.{next_text}
use Rattle.fix_choice.proofs.next.next_text.Given as goal

abbrev pub invariant-loop-report : goal.invariant-loop-report
invariant-loop-report l = next_text l.text (drop l.report-index l.reports) ≡ next_text l.text l.reports
