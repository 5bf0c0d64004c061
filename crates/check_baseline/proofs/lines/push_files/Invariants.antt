use Rattle.std.proofs.Common.{◌≡◌, ◌++◌, take}
use Rattle.std.specs.List.{flat_map}
use Rattle.check_baseline.specs.Written.{file_lines}
use Rattle.check_baseline.proofs.lines.push_files.Given as goal

-- the lines of the files so far were added
abbrev pub invariant-loop-file : goal.invariant-loop-file
invariant-loop-file l = l.to.items ≡ l.fn.to.items ++ flat_map file_lines (take l.file-index l.files)
