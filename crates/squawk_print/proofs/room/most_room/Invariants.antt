use Rattle.std.proofs.Common.{◌≤◌, length, take}
use Rattle.std.specs.List.{All}
use Rattle.squawk_print.specs.Printed.{printed_violation}
use Rattle.squawk_print.proofs.room.most_room.Given as goal

abbrev pub invariant-loop-violation : goal.invariant-loop-violation
invariant-loop-violation l = record {
  each : All (λ v. length (printed_violation v) ≤ l.most) (take l.violation-index l.violations);
  last : 33 ≤ l.most;
}
