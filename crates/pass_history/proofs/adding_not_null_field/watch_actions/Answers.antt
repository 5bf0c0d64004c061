use Rattle.std.proofs.Common.{subst}
use Rattle.lint_pass.specs.lint_base.GrownLaws.{at_err}
use Rattle.lint_pass.specs.lint_node.Altered.{altered}
use Rattle.lint_pass.proofs.of_lint_transaction.EventLaws.{history_next, pieces_next, pieces_front}
use Rattle.pass_history.specs.AddingNotNullField.{report_on}
use Rattle.pass_history.specs.AddingNotNullFieldWalk.{Knows}
use Rattle.pass_history.proofs.adding_not_null_field.watch_actions.Goals as goal

pub loop-a-preserved : goal.loop-a-preserved
loop-a-preserved c =
    let p = c.args.p.now in
    let f = report_on c.args.uses p in
    let g = altered c.args.table in
    let xs = c.args.actions.now in
    let k = c.loop-a.a-index in
    let a = c.a-item.result in
    record {
      keyed = c.in_ok-watch_action.ensures.keyed;
      knows = λ es h.
          subst (λ ys. Knows c.args.uses p ys c.watch_action.new.known) (history_next f g xs k a c.loop-a-test.true c.a-item.is es)
          (c.in_ok-watch_action.ensures.knows _ (c.loop-a.invariant.knows es h));
      reported = λ es h.
          pieces_next f g xs k a c.loop-a-test.true c.a-item.is es c.args.out.now c.loop-a.out c.watch_action.new.out (c.loop-a.invariant.reported es h)
          (c.in_ok-watch_action.ensures.ok _ (c.loop-a.invariant.knows es h));
    }

pub returns-in_err-watch_action-clause-err : goal.returns-in_err-watch_action-clause-err
returns-in_err-watch_action-clause-err c =
    at_err c.from_residual.result
    (λ es h.
    pieces_front (report_on c.args.uses c.args.p.now) (altered c.args.table) c.args.actions.now c.loop-a.a-index c.a-item.result c.loop-a-test.true c.a-item.is es c.args.out.now c.loop-a.out
    c.watch_action.new.out (c.loop-a.invariant.reported es h) (c.in_err-watch_action.ensures.err _ (c.loop-a.invariant.knows es h)))
