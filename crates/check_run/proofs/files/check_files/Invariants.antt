use Rattle.std.proofs.Common.{◌≤◌, ℕ, All, List, take}
use Rattle.checked_file.specs.declared.checked.Linted.{Linted}
use Rattle.checked_file.specs.Sound.{IsSound}
use Rattle.sql_files.specs.devices.Contents.{KeepsContents}
use Rattle.check_run.specs.Checks.{AreChecked}
use Rattle.check_run.proofs.files.check_files.Given as goal

-- the files so far, and what the linter and the store still are
abbrev pub invariant-loop-i : goal.invariant-loop-i
invariant-loop-i g l = record {
  checked : AreChecked (g.L.Lint.answers l.fn.linter) (g.F.FileStore.content l.fn.files) (g.F.FileStore.faults l.fn.files) (g.F.FileStore.faults l.files) (take l.i l.names) l.all.items;
  sound : All IsSound l.all.items;
  kept : KeepsContents (g.F.FileStore.content l.fn.files) (g.F.FileStore.content l.files);
  later : g.F.FileStore.faults l.fn.files ≤ g.F.FileStore.faults l.files;
  same : (bytes : List ℕ) (linted : Linted) → g.L.Lint.answers l.linter bytes linted → g.L.Lint.answers l.fn.linter bytes linted;
}
