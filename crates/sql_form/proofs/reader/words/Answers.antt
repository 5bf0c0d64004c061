use Rattle.std.proofs.Common.{arith}
use Rattle.sql_tree.specs.Forms.{words_of}
use Rattle.sql_form.proofs.reader.words.Goals as goal

pub returns-in-AndNoChain : goal.returns-in-AndNoChain
unfolding words_of
returns-in-AndNoChain c = grind arith
