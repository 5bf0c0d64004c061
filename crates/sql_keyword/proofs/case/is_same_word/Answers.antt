use Rattle.std.proofs.Common.{◌≡◌, arith, length}
use Rattle.sql_keyword.proofs.Letters.{spelled}
use Rattle.sql_keyword.proofs.case.is_same_word.Goals as goal

pub returns-then-word-text : goal.returns-then-word-text
returns-then-word-text c =
    let lengths : length c.args.word.now ≡ length c.args.text.now = omega arith in
    spelled c.args.word.now c.args.text.now c.are_all_same.result lengths c.are_all_same.ensures
