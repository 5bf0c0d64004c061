use Rattle.std.proofs.Common.{◌≡◌, ◌++◌, take}
use Rattle.std.specs.List.{flat_map}
use Rattle.hazard_find.specs.Findings.{check_finding, enabled_of}
use Rattle.hazard_find.proofs.walk.push_checks.Given as goal

abbrev pub invariant-loop-c : goal.invariant-loop-c
invariant-loop-c l = l.list.items ≡ l.fn.list.items ++ flat_map (λ c. enabled_of l.enabled (check_finding l.here l.p c)) (take l.c-index l.constraints)
