use Rattle.std.proofs.Common.{◌≡◌, ◌++◌, length, drop}
use Rattle.std.specs.List.{filter_map}
use Rattle.sql_tree.specs.Split.{split, then_insert}
use Rattle.sql_tree.specs.Write.{column_list, others}
use Rattle.sql_write.proofs.list.insert_lists.Given as goal

abbrev pub invariant-loop-part : goal.invariant-loop-part
invariant-loop-part l = l.lists.items ++ filter_map (λ part. column_list (drop 1 part)) l.parts ≡ filter_map (λ part. column_list (drop 1 part)) (others (split then_insert l.tail))

abbrev pub decreases-loop-part : goal.decreases-loop-part
decreases-loop-part l = length l.parts
