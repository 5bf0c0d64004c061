use Rattle.std.proofs.Common.{◌≡◌, length}
use Rattle.sql_tree.specs.Split.{all_of, split, comma}
use Rattle.sql_tree.specs.Action.{action}
use Rattle.sql_column.proofs.of_sql_mark.Front.{with_prefix}
use Rattle.sql_action.proofs.actions.several_actions.Given as goal

abbrev pub invariant-loop-part : goal.invariant-loop-part
invariant-loop-part l = with_prefix l.actions.items (all_of (action l.kind) l.parts) ≡ all_of (action l.kind) (split comma l.tail)

abbrev pub decreases-loop-part : goal.decreases-loop-part
decreases-loop-part l = length l.parts
