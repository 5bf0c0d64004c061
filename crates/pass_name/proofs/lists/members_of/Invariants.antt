use Rattle.std.proofs.Common.{◌≡◌, map, take}
use Rattle.pass_name.specs.Members as spec
use Rattle.pass_name.proofs.lists.members_of.Given as goal

abbrev pub invariant-loop-t : goal.invariant-loop-t
invariant-loop-t l = l.names.items ≡ map spec.member_of (take l.t-index l.targets)
