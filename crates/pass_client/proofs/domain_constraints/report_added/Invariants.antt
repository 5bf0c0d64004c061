use Rattle.std.proofs.Common.{◌≡◌, ◌++◌, take}
use Rattle.lint_pass.specs.Those.{those}
use Rattle.pass_client.specs.DomainConstraints.{added_report, adds_constraint}
use Rattle.pass_client.proofs.domain_constraints.report_added.Given as goal

-- what came so far was reported
abbrev pub invariant-loop-a : goal.invariant-loop-a
invariant-loop-a l = l.out ≡ l.fn.out ++ those adds_constraint (added_report l.p) (take l.a-index l.actions)
