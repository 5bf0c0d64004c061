use Rattle.std.proofs.Common.{◌≤◌, take}
use Rattle.fix_output.specs.Writing.{AreWritten}
use Rattle.fix_output.proofs.write.write_changed.Given as goal

abbrev pub invariant-loop-i : goal.invariant-loop-i
invariant-loop-i g l = record {
  written : AreWritten (take l.i l.files) (g.W.FileWriter.content l.initial.writer) (g.W.FileWriter.content l.writer);
  later : g.W.FileWriter.faults l.initial.writer ≤ g.W.FileWriter.faults l.writer;
}
