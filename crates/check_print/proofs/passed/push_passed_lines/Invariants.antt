use Rattle.std.proofs.Common.{◌≡◌, ◌++◌, take}
use Rattle.std.specs.List.{flat_map}
use Rattle.check_print.specs.Passed.{passed_in}
use Rattle.check_print.proofs.passed.push_passed_lines.Given as goal

-- the lines of the files so far were added
abbrev pub invariant-loop-file : goal.invariant-loop-file
invariant-loop-file l = l.to.items ≡ l.fn.to.items ++ flat_map passed_in (take l.file-index l.files)
