use Rattle.std.proofs.Common.{refl, arith}
use Rattle.sql_lex.specs.declared.class.TheConstants.{RUNS}
use Rattle.sql_token.specs.Token.{is_blank}
use Rattle.sql_lex.proofs.Tables.{all_below, from_flags}
use Rattle.sql_lex.proofs.class.is_blank.Goals as goal

pub returns : goal.returns
unfolding all_below
returns c = from_flags RUNS 8 is_blank c.args.b (omega arith) refl
