use Rattle.std.proofs.Common.{◌≡◌, ◌++◌, take}
use Rattle.std.specs.List.{flat_map}
use Rattle.lint_pass.specs.NodeWalk.{at_constraint}
use Rattle.lint_pass.proofs.nodes.report_constraints.Given as goal

-- what came so far was reported
abbrev pub invariant-loop-c : goal.invariant-loop-c
invariant-loop-c g l = l.out ≡ l.fn.out ++ flat_map (at_constraint (g.R.NodeReader.by l.r) l.p l.kind) (take l.c-index l.constraints)
