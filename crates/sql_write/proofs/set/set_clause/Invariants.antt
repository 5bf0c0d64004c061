use Rattle.std.proofs.Common.{◌≡◌, ◌++◌, length}
use Rattle.std.specs.List.{filter_map}
use Rattle.sql_tree.specs.Split.{split, comma, until}
use Rattle.sql_constraint.specs.sql_mark.Marks.{test_of}
use Rattle.sql_tree.specs.Write.{set_part}
use Rattle.sql_write.proofs.set.set_clause.Given as goal

abbrev pub invariant-loop-part : goal.invariant-loop-part
invariant-loop-part l = l.clause.items ++ filter_map set_part l.parts ≡ filter_map set_part (split comma (until (test_of l.fn.end) l.terminals))

abbrev pub decreases-loop-part : goal.decreases-loop-part
decreases-loop-part l = length l.parts
