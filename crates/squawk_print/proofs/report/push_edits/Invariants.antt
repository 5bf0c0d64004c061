use Rattle.std.proofs.Common.{◌≡◌, ◌≤◌, ◌++◌, drop, vec_capacity}
use Rattle.std.specs.List.{flat_map}
use Rattle.squawk_print.specs.Printed.{printed_edit}
use Rattle.squawk_print.proofs.report.push_edits.Given as goal

abbrev pub invariant-loop-edit : goal.invariant-loop-edit
invariant-loop-edit l = record {
  grown : l.to.items ++ flat_map printed_edit (drop l.edit-index l.edits) ≡ l.initial.to.items ++ flat_map printed_edit l.edits;
  capacity : vec_capacity l.initial.to ≤ vec_capacity l.to;
}
