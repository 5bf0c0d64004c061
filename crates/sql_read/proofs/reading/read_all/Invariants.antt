use Rattle.std.proofs.Common.{◌≡◌, length}
use Rattle.sql_tree.specs.Statement.{all_statements}
use Rattle.sql_read.specs.Cause.{after}
use Rattle.sql_read.proofs.reading.read_all.Given as goal

abbrev pub invariant-reading : goal.invariant-reading
invariant-reading l = after l.stmts (all_statements l.left) ≡ all_statements l.initial.left

abbrev pub decreases-reading : goal.decreases-reading
decreases-reading l = length l.left
