use Rattle.lint_ignore.specs.Found.{lists_of}
use Rattle.lint_ignore.specs.Part.{part_of}
use Rattle.lint_ignore.proofs.Growth.{IsReading, bytes_left}
use Rattle.lint_ignore.proofs.found.read_names.Given as goal

-- the names so far are kept, and the others follow them
abbrev pub invariant-loop-left : goal.invariant-loop-left
invariant-loop-left l = IsReading (part_of l.fn.rest) (lists_of l.fn.found) l.fn.ignore l.left l.names (lists_of l.found)

abbrev pub decreases-loop-left : goal.decreases-loop-left
decreases-loop-left l = bytes_left l.left
