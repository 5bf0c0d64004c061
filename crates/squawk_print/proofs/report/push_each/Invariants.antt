use Rattle.std.proofs.Common.{◌≡◌, ◌≤◌, ◌++◌, drop, vec_capacity}
use Rattle.std.specs.List.{flat_map}
use Rattle.squawk_print.specs.Printed.{printed_violation}
use Rattle.squawk_print.proofs.report.push_each.Given as goal

abbrev pub invariant-loop-violation : goal.invariant-loop-violation
invariant-loop-violation l = record {
  grown : l.to.items ++ flat_map printed_violation (drop l.violation-index l.violations) ≡ l.initial.to.items ++ flat_map printed_violation l.violations;
  capacity : vec_capacity l.initial.to ≤ vec_capacity l.to;
}
