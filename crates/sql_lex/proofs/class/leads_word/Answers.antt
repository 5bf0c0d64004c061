use Rattle.std.proofs.Common.{◌<◌, refl, arith}
use Rattle.sql_lex.specs.declared.class.TheConstants.{RUNS}
use Rattle.sql_token.specs.Token.{begins_word}
use Rattle.sql_lex.proofs.Firsts.{plain_tests, plain, prefix_tests, no_prefix, digit_tests, no_digit}
use Rattle.sql_lex.proofs.Tables.{all_below, from_flag}
use Rattle.sql_lex.proofs.class.leads_word.Goals as goal

pub returns : goal.returns
unfolding all_below
returns c = λ is.
    let b = c.args.b in
    let byte : b < 256 = omega arith in
    record {
      other = no_prefix b (plain b (from_flag RUNS 32 plain_tests b byte refl is)) (from_flag RUNS 32 prefix_tests b byte refl is);
      number = no_digit b (from_flag RUNS 32 digit_tests b byte refl is);
      word = from_flag RUNS 32 begins_word b byte refl is;
    }
