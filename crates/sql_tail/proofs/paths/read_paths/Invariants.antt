use Rattle.std.proofs.Common.{◌≡◌, ◌++◌, length}
use Rattle.sql_tree.specs.Tails.{paths_from}
use Rattle.sql_tree.proofs.TailWalks.{paths_walk}
use Rattle.sql_tail.proofs.paths.read_paths.Given as goal

abbrev pub invariant-loop-is_path : goal.invariant-loop-is_path
invariant-loop-is_path l = l.paths.items ++ paths_walk l.path.first l.path.last l.here ≡ paths_from l.fn.path.first l.fn.path.last l.left

abbrev pub decreases-loop-is_path : goal.decreases-loop-is_path
decreases-loop-is_path l = length l.here
