use Rattle.std.proofs.Common.{◌≡◌, ◌++◌, take}
use Rattle.std.specs.List.{flat_map}
use Rattle.lint_pass.specs.NodeWalk.{at_action}
use Rattle.lint_pass.proofs.nodes.report_actions.Given as goal

-- what came so far was reported
abbrev pub invariant-loop-a : goal.invariant-loop-a
invariant-loop-a g l = l.out ≡ l.fn.out ++ flat_map (at_action (g.R.NodeReader.by l.r) l.p l.kind) (take l.a-index l.actions)
