use Rattle.std.proofs.Common.{subst}
use Rattle.fix_output.specs.declared.write.WriteStop.{WriteStop}
use Rattle.fix_output.specs.Writing.{HasStopped}
use Rattle.fix_run.proofs.Giving.{files_stopped}
use Rattle.fix_run.proofs.give.write_files.Goals as goal

pub returns-in-Err-Fault-clause-stop : goal.returns-in-Err-Fault-clause-stop
returns-in-Err-Fault-clause-stop g c =
    let files = c.args.files.now in
    let old = g.W.FileWriter.content c.args.writer.now in
    let new = g.W.FileWriter.content c.write_changed.new.writer in
    let before = g.W.FileWriter.faults c.args.writer.now in
    let now = g.W.FileWriter.faults c.write_changed.new.writer in
    files_stopped files c.in-Err-Fault.number old new before now c.failed_at.result
    (subst (λ (x : WriteStop). HasStopped x files old new before now) c.in-Err-Fault.field-0-is c.in-Err-Fault.ensures.stopped) c.failed_at.ensures
