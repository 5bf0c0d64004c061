use Rattle.std.proofs.Common.{◌≡◌, ◌++◌, length}
use Rattle.std.specs.List.{filter_map}
use Rattle.sql_tree.specs.Split.{split, comma}
use Rattle.sql_tree.specs.Write.{target}
use Rattle.sql_write.proofs.target.targets_between.Given as goal

abbrev pub invariant-loop-part : goal.invariant-loop-part
invariant-loop-part l = l.targets.items ++ filter_map target l.parts ≡ filter_map target (split comma l.terminals)

abbrev pub decreases-loop-part : goal.decreases-loop-part
decreases-loop-part l = length l.parts
