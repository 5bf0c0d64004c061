use Rattle.std.proofs.Common.{◌≡◌, ◌+◌, ◌*◌, ◌≤◌, ◌++◌, length, map}
use Rattle.sql_tree.specs.Expression.{tree, parts_of}
use Rattle.sql_expr.specs.Levels.{all_around}
use Rattle.sql_expr.proofs.expression.+tree.Given as goal

abbrev pub decreases-innermost : goal.decreases-innermost
decreases-innermost l = 3 * l.depth

abbrev pub invariant-innermost-loop-left : goal.invariant-innermost-loop-left
invariant-innermost-loop-left l =
    (l.left ≤ l.fn.depth) × (all_around l.levels (tree l.left l.rest) ≡ all_around l.fn.levels (tree l.fn.depth l.fn.terminals))

abbrev pub decreases-innermost-loop-left : goal.decreases-innermost-loop-left
decreases-innermost-loop-left l = l.left

abbrev pub decreases-tree : goal.decreases-tree
decreases-tree l = 3 * l.depth + 1

abbrev pub decreases-parts_of : goal.decreases-parts_of
decreases-parts_of l = 3 * l.depth + 2

abbrev pub invariant-parts_of-loop-part : goal.invariant-parts_of-loop-part
invariant-parts_of-loop-part l = l.read ++ map (tree l.depth) l.parts ≡ parts_of l.depth l.terminals

abbrev pub decreases-parts_of-loop-part : goal.decreases-parts_of-loop-part
decreases-parts_of-loop-part l = length l.parts
