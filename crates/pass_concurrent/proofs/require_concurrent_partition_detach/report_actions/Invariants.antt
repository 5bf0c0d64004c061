use Rattle.std.proofs.Common.{◌≡◌, ◌++◌, take}
use Rattle.lint_pass.specs.lint_node.Plain as plain
use Rattle.lint_pass.specs.Those.{those}
use Rattle.pass_concurrent.specs.RequireConcurrentPartitionDetach as spec
use Rattle.pass_concurrent.proofs.require_concurrent_partition_detach.report_actions.Given as goal

-- the actions so far were reported
abbrev pub invariant-loop-a : goal.invariant-loop-a
invariant-loop-a l = l.out ≡ l.fn.out ++ those plain.is_plain_detach (spec.report l.p) (take l.a-index l.actions)
