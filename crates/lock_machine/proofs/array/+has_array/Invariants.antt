use Rattle.std.proofs.Common.{◌≡◌, false, take}
use Rattle.std.specs.List.{list_any}
use Rattle.lock_machine.specs.Plain.{has_array}
use Rattle.lock_machine.proofs.array.+has_array.Given as goal

abbrev pub invariant-any_has_array-loop-part : goal.invariant-any_has_array-loop-part
invariant-any_has_array-loop-part l = list_any has_array (take l.part-index l.parts) ≡ false
