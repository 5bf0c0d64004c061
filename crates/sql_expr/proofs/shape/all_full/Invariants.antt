use Rattle.std.proofs.Common.{◌≡◌, length}
use Rattle.sql_tree.specs.Split.{operator, split}
use Rattle.sql_tree.specs.Expression.{all_full_of}
use Rattle.sql_expr.proofs.shape.all_full.Given as goal

abbrev pub invariant-loop-part : goal.invariant-loop-part
invariant-loop-part l = all_full_of l.parts ≡ all_full_of (split operator l.terminals)

abbrev pub decreases-loop-part : goal.decreases-loop-part
decreases-loop-part l = length l.parts
