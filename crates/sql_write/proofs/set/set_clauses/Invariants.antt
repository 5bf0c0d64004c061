use Rattle.std.proofs.Common.{◌≡◌, ◌++◌, length, map, drop}
use Rattle.sql_constraint.specs.sql_mark.Marks.{test_of}
use Rattle.sql_tree.specs.Split.{split}
use Rattle.sql_tree.specs.Write.{set_clause, others}
use Rattle.sql_write.proofs.set.set_clauses.Given as goal

abbrev pub invariant-loop-part : goal.invariant-loop-part
invariant-loop-part l =
    l.clauses.items ++ map (λ part. set_clause (test_of l.fn.end) (drop 2 part)) l.parts
    ≡ map (λ part. set_clause (test_of l.fn.end) (drop 2 part)) (others (split (test_of l.fn.mark) l.tail))

abbrev pub decreases-loop-part : goal.decreases-loop-part
decreases-loop-part l = length l.parts
