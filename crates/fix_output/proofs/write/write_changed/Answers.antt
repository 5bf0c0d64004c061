use Rattle.std.proofs.Common.{arith}
use Rattle.fix_output.proofs.Walk.{stopped_at, written_more}
use Rattle.fix_output.proofs.write.write_changed.Goals as goal

pub loop-i-preserved : goal.loop-i-preserved
loop-i-preserved g c = record {
  written = written_more c.args.files.now c.loop-i.i c.index-files-i.result _ _ _ c.loop-i-test.true c.index-files-i.is c.loop-i.invariant.written c.in-Ok.ensures.written;
  later = omega (arith, c.loop-i.invariant.later, c.write_if.ensures.later);
}

pub returns-in-Err-clause-stopped : goal.returns-in-Err-clause-stopped
returns-in-Err-clause-stopped g c =
    let e = c.in-Err.ensures in
    stopped_at c.args.files.now c.loop-i.i c.index-files-i.result _ _ _ (g.W.FileWriter.faults c.args.writer.now) (g.W.FileWriter.faults c.loop-i.writer) (g.W.FileWriter.faults c.write_if.new.writer)
    c.in-Err.error c.stop_at.result c.loop-i-test.true c.index-files-i.is c.stop_at.ensures c.loop-i.invariant.written e.kept e.changed c.loop-i.invariant.later e.refused
