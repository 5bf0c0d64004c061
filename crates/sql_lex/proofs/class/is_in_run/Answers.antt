use Rattle.std.proofs.Common.{◌||◌, refl, arith}
use Rattle.sql_lex.specs.declared.class.TheConstants.{RUNS}
use Rattle.sql_token.specs.Token.{is_blank, is_word}
use Rattle.sql_lex.proofs.Tables.{all_below, from_flags}
use Rattle.sql_lex.proofs.class.is_in_run.Goals as goal

pub returns : goal.returns
unfolding all_below
returns c = from_flags RUNS 9 (λ x. is_word x || is_blank x) c.args.b (omega arith) refl
