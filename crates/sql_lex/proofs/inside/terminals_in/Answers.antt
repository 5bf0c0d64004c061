use Rattle.std.proofs.Common.{arith}
use Rattle.sql_lex.proofs.Insides.{is_walk_inside}
use Rattle.sql_lex.specs.Inside.{terminals_in}
use Rattle.sql_lex.proofs.inside.terminals_in.Goals as goal

pub returns : goal.returns
unfolding terminals_in
returns c = grind (arith, is_walk_inside)
