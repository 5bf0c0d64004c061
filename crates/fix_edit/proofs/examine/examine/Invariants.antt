use Rattle.std.proofs.Common.{◌≡◌}
use Rattle.fix_edit.specs.Faults.{AreGoodBelow, end_before}
use Rattle.fix_edit.proofs.examine.examine.Given as goal

abbrev pub invariant-loop-number : goal.invariant-loop-number
invariant-loop-number l = record {
  good : AreGoodBelow l.text l.edits l.number;
  place : l.place ≡ end_before l.edits l.number;
}
