use Rattle.std.proofs.Common.{◌≡◌, length}
use Rattle.sql_tree.specs.Split.{all_of}
use Rattle.sql_tree.specs.Pieces.{pieces}
use Rattle.sql_tree.specs.ColumnMarks.{constraint_start, constraint_head}
use Rattle.sql_tree.specs.Constraint.{column_constraint}
use Rattle.sql_form.proofs.of_sql_mark.Front.{with_prefix}
use Rattle.sql_constraint.proofs.column.read_column_constraints.Given as goal

abbrev pub invariant-loop-piece : goal.invariant-loop-piece
invariant-loop-piece l =
    with_prefix l.constraints.items (all_of column_constraint l.pieces) ≡ all_of column_constraint (pieces constraint_start constraint_head l.fn.earlier l.terminals)

abbrev pub decreases-loop-piece : goal.decreases-loop-piece
decreases-loop-piece l = length l.pieces
