use Rattle.std.proofs.Common.{◌≡◌, ◌≤◌, length}
use Rattle.std.specs.List.{list_all}
use Rattle.pass_name.proofs.duplicate_report.are_partial.Given as goal

abbrev pub invariant-loop-m : goal.invariant-loop-m
invariant-loop-m l = (list_all (λ m. m.partial) l.rest ≡ list_all (λ m. m.partial) l.members) × (length l.rest ≤ length l.members)

abbrev pub decreases-loop-m : goal.decreases-loop-m
decreases-loop-m l = length l.rest
