use Rattle.check_print.proofs.Pushing.{refusal_pushed, refusals_end}
use Rattle.check_print.proofs.answer.push_refusals.Goals as goal

pub loop-refusal-preserved : goal.loop-refusal-preserved
loop-refusal-preserved c =
    let l = c.loop-refusal in
    refusal_pushed c.args.style c.args.file.now c.args.refusals.now l.refusal-index l.behind c.refusal-item.result _ _ _ c.loop-refusal-test.true c.refusal-item.is l.invariant
    c.in_ok-push_separated_refusal.ensures

pub returns : goal.returns
returns c =
    let l = c.loop-refusal in
    refusals_end c.args.style c.args.file.now c.args.refusals.now l.refusal-index l.behind _ _ c.loop-refusal-test.false l.invariant
