use Rattle.lint_base.specs.GrownLaws.{at_err}
use Rattle.lint_pass.specs.NodeWalk.{at_constraint}
use Rattle.lint_pass.proofs.PartLaws.{part_refused_in}
use Rattle.lint_pass.proofs.nodes.report_constraints.Goals as goal

pub returns-in_err-report_constraint-clause-err : goal.returns-in_err-report_constraint-clause-err
returns-in_err-report_constraint-clause-err g c =
    at_err _
    (part_refused_in (at_constraint (g.R.NodeReader.by c.args.r.now) c.args.p.now c.args.kind) c.args.constraints.now c.loop-c.c-index c.c-item.result c.args.out.now c.loop-c.out c.report_constraint.new.out
    c.loop-c-test.true c.c-item.is c.loop-c.invariant c.in_err-report_constraint.ensures.err)
