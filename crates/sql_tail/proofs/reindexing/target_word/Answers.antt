use Rattle.std.proofs.Common.{arith}
use Rattle.sql_tail.proofs.reindexing.target_word.Goals as goal

pub returns-in-SCHEMA : goal.returns-in-SCHEMA
returns-in-SCHEMA c = grind arith
