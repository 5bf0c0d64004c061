use Rattle.std.proofs.Common.{◌≡◌, ◌++◌, drop, false}
use Rattle.check_print.specs.Printed.{printed_files}
use Rattle.check_print.proofs.files.push_files.Given as goal

-- what was added, and then the files that are left
abbrev pub invariant-loop-file : goal.invariant-loop-file
invariant-loop-file l = l.to.items ++ printed_files l.style l.behind (drop l.file-index l.files) ≡ l.initial.to.items ++ printed_files l.style false l.files
