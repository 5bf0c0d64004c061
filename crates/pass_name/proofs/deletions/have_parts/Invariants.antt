use Rattle.std.proofs.Common.{◌≡◌, length}
use Rattle.std.specs.List.{list_all}
use Rattle.pass_name.specs.BanDuplicateColumnAssignments as spec
use Rattle.pass_name.proofs.deletions.have_parts.Given as goal

abbrev pub invariant-loop-m : goal.invariant-loop-m
invariant-loop-m l = list_all spec.has_part l.rest ≡ list_all spec.has_part l.members

abbrev pub decreases-loop-m : goal.decreases-loop-m
decreases-loop-m l = length l.rest
