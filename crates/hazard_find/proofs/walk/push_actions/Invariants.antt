use Rattle.std.proofs.Common.{◌≡◌, ◌++◌, take}
use Rattle.std.specs.List.{flat_map}
use Rattle.hazard_find.specs.Findings.{action_findings}
use Rattle.hazard_find.proofs.walk.push_actions.Given as goal

abbrev pub invariant-loop-a : goal.invariant-loop-a
invariant-loop-a l = l.list.items ≡ l.fn.list.items ++ flat_map (action_findings l.enabled l.here l.p) (take l.a-index l.actions)
