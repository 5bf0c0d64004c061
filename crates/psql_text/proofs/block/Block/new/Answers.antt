use Rattle.std.proofs.Common.{refl}
use Rattle.psql_text.proofs.block.Block.new.Goals as goal

pub returns-clause-value : goal.returns-clause-value
returns-clause-value c = refl
