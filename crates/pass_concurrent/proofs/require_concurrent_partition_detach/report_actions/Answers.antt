use Rattle.lint_pass.specs.lint_base.GrownLaws.{at_err}
use Rattle.lint_pass.specs.lint_node.Plain as plain
use Rattle.lint_pass.specs.Those.{that}
use Rattle.lint_pass.proofs.PartLaws.{part_next, part_refused}
use Rattle.pass_concurrent.specs.RequireConcurrentPartitionDetach as spec
use Rattle.pass_concurrent.proofs.require_concurrent_partition_detach.report_actions.Goals as goal

pub loop-a-preserved : goal.loop-a-preserved
loop-a-preserved c =
    part_next (that plain.is_plain_detach (spec.report c.args.p.now)) c.args.actions.now c.loop-a.a-index c.a-item.result c.args.out.now c.loop-a.out c.report_action.new.out
    c.loop-a-test.true c.a-item.is c.loop-a.invariant c.in_ok-report_action.ensures.ok

pub returns-in_err-report_action-clause-err : goal.returns-in_err-report_action-clause-err
returns-in_err-report_action-clause-err c =
    at_err c.from_residual.result
    (part_refused (that plain.is_plain_detach (spec.report c.args.p.now)) c.args.actions.now c.loop-a.a-index c.a-item.result c.args.out.now c.loop-a.out c.report_action.new.out
    c.loop-a.invariant c.in_err-report_action.ensures.err)
