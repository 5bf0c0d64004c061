use Rattle.std.proofs.Common.{◌≤◌}
use Rattle.devices.specs.Contents.{KeepsContents}
use Rattle.sql_files.proofs.Naming.{GoesOn}
use Rattle.sql_files.proofs.expand.expanded.Given as goal

-- the names so far, and what the store still is
abbrev pub invariant-loop-i : goal.invariant-loop-i
invariant-loop-i g l = record {
  named : GoesOn (g.F.FileStore.content l.fn.files) (g.F.FileStore.faults l.fn.files) (g.F.FileStore.faults l.files) l.words l.i l.names;
  kept : KeepsContents (g.F.FileStore.content l.fn.files) (g.F.FileStore.content l.files);
  later : g.F.FileStore.faults l.fn.files ≤ g.F.FileStore.faults l.files;
}
