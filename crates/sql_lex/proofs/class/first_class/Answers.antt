use Rattle.std.proofs.Common.{◌<◌, ◌==◌, not, refl, arith}
use Rattle.std.proofs.lemmas.Bool.{not-true}
use Rattle.std.specs.Char.{is_ascii_digit}
use Rattle.sql_lex.specs.declared.class.TheConstants.{FIRST}
use Rattle.sql_token.specs.Token.{is_blank, is_op, is_punct, begins_word}
use Rattle.sql_lex.proofs.Firsts.{plain_tests, plain, prefix_tests, no_prefix, digit_tests, no_digit, sign_tests, sign}
use Rattle.sql_lex.proofs.Tables.{all_below, from_class, same_number}
use Rattle.sql_lex.proofs.class.first_class.Goals as goal

pub returns : goal.returns
unfolding all_below
returns c =
    let b = c.args.b in
    let byte : b < 256 = omega arith in
    record {
      blank = λ is. from_class FIRST 95 is_blank b byte refl is;
      word = λ is. (
        no_prefix b (plain b (from_class FIRST 119 plain_tests b byte refl is)) (from_class FIRST 119 prefix_tests b byte refl is),
        no_digit b (from_class FIRST 119 digit_tests b byte refl is),
        from_class FIRST 119 begins_word b byte refl is,
      );
      letter = λ is. (
        plain b (from_class FIRST 108 plain_tests b byte refl is),
        no_digit b (from_class FIRST 108 digit_tests b byte refl is),
        from_class FIRST 108 begins_word b byte refl is,
      );
      digit = λ is. (
        no_prefix b (plain b (from_class FIRST 100 plain_tests b byte refl is)) (from_class FIRST 100 prefix_tests b byte refl is),
        from_class FIRST 100 is_ascii_digit b byte refl is,
      );
      operator = λ is. (
        sign b (no_prefix b (plain b (from_class FIRST 111 plain_tests b byte refl is)) (from_class FIRST 111 prefix_tests b byte refl is)) (from_class FIRST 111 sign_tests b byte refl is),
        from_class FIRST 111 is_op b byte refl is,
      );
      punct = λ is. (
        sign b (no_prefix b (plain b (from_class FIRST 112 plain_tests b byte refl is)) (from_class FIRST 112 prefix_tests b byte refl is)) (from_class FIRST 112 sign_tests b byte refl is),
        not-true (is_op b) (from_class FIRST 112 (λ x. not (is_op x)) b byte refl is),
        from_class FIRST 112 is_punct b byte refl is,
      );
      quote = λ is. same_number b 39 (from_class FIRST 113 (λ x. x == 39) b byte refl is);
      double = λ is. same_number b 34 (from_class FIRST 81 (λ x. x == 34) b byte refl is);
    }
