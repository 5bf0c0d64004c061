use Rattle.std.proofs.Common.{◌+◌, ◌≤◌, length, drop}
use Rattle.std.specs.List.{flat_map}
use Rattle.squawk_print.specs.Printed.{printed_edit}
use Rattle.squawk_print.proofs.room.edits_room.Given as goal

abbrev pub invariant-loop-edit : goal.invariant-loop-edit
invariant-loop-edit l = length (flat_map printed_edit l.edits) ≤ l.room + length (flat_map printed_edit (drop l.edit-index l.edits))
