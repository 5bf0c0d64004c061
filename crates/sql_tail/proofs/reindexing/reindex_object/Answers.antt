use Rattle.std.proofs.Common.{arith}
use Rattle.std.proofs.lemmas.Grind.{common_steps}
use Rattle.sql_tree.specs.Tails.{reindex_object}
use Rattle.sql_tail.proofs.reindexing.reindex_object.Goals as goal

pub returns-after-begins_with : goal.returns-after-begins_with
unfolding reindex_object
returns-after-begins_with c = grind (arith, common_steps)
