use Rattle.std.proofs.Common.{◌≡◌, ◌++◌, map, take}
use Rattle.pass_name.specs.Members as spec
use Rattle.pass_name.proofs.lists.push_part.Given as goal

abbrev pub invariant-loop-t : goal.invariant-loop-t
invariant-loop-t l = l.names.items ≡ l.fn.names.items ++ map (spec.assigned_in l.part) (take l.t-index l.targets)
