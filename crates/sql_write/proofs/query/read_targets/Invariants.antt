use Rattle.std.proofs.Common.{◌≡◌, ◌++◌, length}
use Rattle.std.specs.List.{filter_map}
use Rattle.sql_tree.specs.Split.{split, comma, until, target_list_end}
use Rattle.sql_tree.specs.Write.{query_target, after_distinct}
use Rattle.sql_write.proofs.query.read_targets.Given as goal

abbrev pub invariant-loop-part : goal.invariant-loop-part
invariant-loop-part l = l.targets.items ++ filter_map query_target l.parts ≡ filter_map query_target (split comma (until target_list_end (after_distinct l.terminals)))

abbrev pub decreases-loop-part : goal.decreases-loop-part
decreases-loop-part l = length l.parts
