use Rattle.fix_output.proofs.Walk.{diffs_more}
use Rattle.fix_output.proofs.diffs.push_diffs.Goals as goal

pub loop-file-preserved : goal.loop-file-preserved
loop-file-preserved c =
    diffs_more c.args.files.now c.loop-file.file-index c.file-item.result _ _ _ c.loop-file-test.true c.file-item.is c.loop-file.invariant c.in_ok-push_if.ensures
