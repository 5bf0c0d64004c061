use Rattle.std.proofs.Common.{◌<◌, not, refl, arith}
use Rattle.std.proofs.lemmas.Bool.{not-true}
use Rattle.sql_lex.specs.declared.class.TheConstants.{RUNS}
use Rattle.sql_token.specs.Token.{is_op, is_punct}
use Rattle.sql_lex.proofs.Firsts.{plain_tests, plain, prefix_tests, no_prefix, sign_tests, sign}
use Rattle.sql_lex.proofs.Tables.{all_below, from_flag}
use Rattle.sql_lex.proofs.class.leads_punct.Goals as goal

pub returns : goal.returns
unfolding all_below
returns c = λ is.
    let b = c.args.b in
    let byte : b < 256 = omega arith in
    record {
      sign = sign b (no_prefix b (plain b (from_flag RUNS 16 plain_tests b byte refl is)) (from_flag RUNS 16 prefix_tests b byte refl is)) (from_flag RUNS 16 sign_tests b byte refl is);
      operator = not-true (is_op b) (from_flag RUNS 16 (λ x. not (is_op x)) b byte refl is);
      mark = from_flag RUNS 16 is_punct b byte refl is;
    }
