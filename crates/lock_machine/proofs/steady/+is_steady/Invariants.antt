use Rattle.std.proofs.Common.{◌≡◌, true, take}
use Rattle.std.specs.List.{list_all}
use Rattle.lock_machine.specs.Steady.{is_steady}
use Rattle.lock_machine.proofs.steady.+is_steady.Given as goal

-- all parts so far are steady
abbrev pub invariant-are_steady-loop-part : goal.invariant-are_steady-loop-part
invariant-are_steady-loop-part l = list_all (is_steady l.names l.p) (take l.part-index l.parts) ≡ true
