use Rattle.std.proofs.Common.{◌≡◌, length}
use Rattle.sql_tree.specs.Forms.{names_end}
use Rattle.sql_mark.proofs.groups.names_from.Given as goal

abbrev pub invariant-loop-rest : goal.invariant-loop-rest
invariant-loop-rest l = names_end l.last l.rest ≡ names_end l.fn.number l.fn.left

abbrev pub decreases-loop-rest : goal.decreases-loop-rest
decreases-loop-rest l = length l.rest
