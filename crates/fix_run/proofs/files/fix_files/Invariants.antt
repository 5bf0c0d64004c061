use Rattle.std.proofs.Common.{◌≤◌, All, take}
use Rattle.fix_output.specs.devices.Contents.{KeepsContents}
use Rattle.fix_run.specs.Outcomes.{HaveOutcomes, IsSound, IsSoundFile}
use Rattle.fix_run.proofs.files.fix_files.Given as goal

-- the files so far, and what the store still is
abbrev pub invariant-loop-i : goal.invariant-loop-i
invariant-loop-i g l = record {
  come : HaveOutcomes (g.M.Fixer.answers l.fixer) (g.F.FileStore.content l.fn.files) (g.F.FileStore.faults l.fn.files) (g.F.FileStore.faults l.files) (take l.i l.names) l.all.fixed.items l.all.unread.items;
  sound : All IsSound l.all.unread.items;
  sound_files : All IsSoundFile l.all.fixed.items;
  kept : KeepsContents (g.F.FileStore.content l.fn.files) (g.F.FileStore.content l.files);
  later : g.F.FileStore.faults l.fn.files ≤ g.F.FileStore.faults l.files;
}
