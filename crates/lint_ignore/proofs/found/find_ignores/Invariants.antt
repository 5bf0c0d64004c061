use Rattle.lint_ignore.specs.Found.{lists_of}
use Rattle.lint_ignore.proofs.Growth.{HasFound}
use Rattle.lint_ignore.proofs.found.find_ignores.Given as goal

-- what the comments so far say is found
abbrev pub invariant-loop-i : goal.invariant-loop-i
invariant-loop-i l = HasFound l.p (lists_of l.fn.found) (lists_of l.found) l.i
