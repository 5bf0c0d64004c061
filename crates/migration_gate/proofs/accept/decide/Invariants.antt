use Rattle.std.proofs.Common.{◌≡◌, take}
use Rattle.migration_gate.specs.Judged.{IsSoFar}
use Rattle.migration_gate.specs.Verdict.{texts_of}
use Rattle.migration_gate.proofs.accept.decide.Given as goal

-- the linter is as before, the files so far pass, and these are their works
abbrev pub invariant-loop-file : goal.invariant-loop-file
invariant-loop-file l = record {
  kept : l.linter ≡ l.fn.linter;
  so_far : IsSoFar l.fn.linter.rules l.fn.linter.settings (take l.file (texts_of l.files)) l.works.items;
}
