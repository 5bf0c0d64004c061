use Rattle.std.proofs.Common.{◌≡◌, length}
use Rattle.sql_tree.specs.Split.{all_of, split, comma}
use Rattle.sql_tree.specs.Write.{column_name}
use Rattle.sql_constraint.proofs.of_sql_mark.Front.{with_prefix}
use Rattle.sql_write.proofs.view.column_names.Given as goal

abbrev pub invariant-loop-part : goal.invariant-loop-part
invariant-loop-part l = with_prefix l.names.items (all_of column_name l.parts) ≡ all_of column_name (split comma l.terminals)

abbrev pub decreases-loop-part : goal.decreases-loop-part
decreases-loop-part l = length l.parts
