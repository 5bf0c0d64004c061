use Rattle.std.proofs.Common.{◌≡◌, ◌++◌, take}
use Rattle.std.specs.List.{flat_map}
use Rattle.pass_object.specs.Changes.{at_action, by}
use Rattle.pass_object.proofs.changes.Changes.report_actions.Given as goal

-- what came so far was reported
abbrev pub invariant-loop-a : goal.invariant-loop-a
invariant-loop-a l = l.out ≡ l.fn.out ++ flat_map (at_action (by l.self) l.p) (take l.a-index l.actions)
