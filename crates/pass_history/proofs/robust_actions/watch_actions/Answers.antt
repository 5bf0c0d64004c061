use Rattle.std.proofs.Common.{◌≡◌, ◌∙◌, ap, subst, ◌++◌, map, take, length, arith}
use Rattle.std.proofs.Math.Seq.{take-length}
use Rattle.lint_pass.specs.lint_base.GrownLaws.{at_err}
use Rattle.lint_pass.specs.lint_node.Altered.{altered}
use Rattle.lint_pass.proofs.of_lint_transaction.EventLaws.{history_next, pieces_next, pieces_front}
use Rattle.pass_history.specs.Dropped.{IsDropping}
use Rattle.pass_history.specs.RobustActions.{report_on}
use Rattle.pass_history.proofs.robust_actions.watch_actions.Goals as goal

pub loop-a-preserved : goal.loop-a-preserved
loop-a-preserved c =
    let p = c.args.p.now in
    let f = report_on c.args.robust p in
    let g = altered c.args.table in
    let xs = c.args.actions.now in
    let k = c.loop-a.a-index in
    let a = c.a-item.result in
    record {
      knows = λ es h.
          subst (λ ys. IsDropping p ys c.watch_action.new.dropped) (history_next f g xs k a c.loop-a-test.true c.a-item.is es)
          (c.in_ok-watch_action.ensures.knows _ (c.loop-a.invariant.knows es h));
      reported = λ es h.
          pieces_next f g xs k a c.loop-a-test.true c.a-item.is es c.args.out.now c.loop-a.out c.watch_action.new.out (c.loop-a.invariant.reported es h)
          (c.in_ok-watch_action.ensures.ok _ (c.loop-a.invariant.knows es h));
    }

pub returns-in_err-watch_action-clause-err : goal.returns-in_err-watch_action-clause-err
returns-in_err-watch_action-clause-err c =
    at_err c.from_residual.result
    (λ es h.
    pieces_front (report_on c.args.robust c.args.p.now) (altered c.args.table) c.args.actions.now c.loop-a.a-index c.a-item.result c.loop-a-test.true c.a-item.is es c.args.out.now c.loop-a.out
    c.watch_action.new.out (c.loop-a.invariant.reported es h) (c.in_err-watch_action.ensures.err _ (c.loop-a.invariant.knows es h)))

pub returns-clause-knows : goal.returns-clause-knows
returns-clause-knows c es h =
    let xs = c.args.actions.now in
    let all : c.loop-a.a-index ≡ length xs = omega arith in
    subst (λ ys. IsDropping c.args.p.now (es ++ map (altered c.args.table) ys) c.loop-a.dropped) (ap (λ k. take k xs) all ∙ take-length xs) (c.loop-a.invariant.knows es h)
