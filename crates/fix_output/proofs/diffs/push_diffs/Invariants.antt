use Rattle.std.proofs.Common.{take}
use Rattle.fix_output.specs.Differences.{HasDiffs}
use Rattle.fix_output.proofs.diffs.push_diffs.Given as goal

abbrev pub invariant-loop-file : goal.invariant-loop-file
invariant-loop-file l = HasDiffs (take l.file-index l.files) l.initial.to.items l.to.items
