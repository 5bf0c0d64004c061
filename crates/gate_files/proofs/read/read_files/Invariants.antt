use Rattle.std.proofs.Common.{◌≤◌, take}
use Rattle.sql_files.specs.devices.Contents.{KeepsContents}
use Rattle.gate_files.specs.Read.{AreRead}
use Rattle.gate_files.proofs.read.read_files.Given as goal

-- the files so far, and what the store still is
abbrev pub invariant-loop-i : goal.invariant-loop-i
invariant-loop-i g l = record {
  read : AreRead (g.F.FileStore.content l.fn.files) (take l.i l.names) l.all.items;
  kept : KeepsContents (g.F.FileStore.content l.fn.files) (g.F.FileStore.content l.files);
  later : g.F.FileStore.faults l.fn.files ≤ g.F.FileStore.faults l.files;
}
