use Rattle.sql_tree.proofs.Chunks.{follow}
use Rattle.sql_tree.proofs.laws.chunks_follow.Goals as goal

pub returns : goal.returns
returns c = follow
