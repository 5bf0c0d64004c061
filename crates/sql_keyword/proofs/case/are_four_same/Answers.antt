use Rattle.std.proofs.Common.{◌∙◌, ap, subst}
use Rattle.std.proofs.lemmas.List.{take_rest}
use Rattle.sql_keyword.specs.Letters.{AreFourBytes, four_of}
use Rattle.sql_keyword.proofs.Fours.{fours}
use Rattle.sql_keyword.proofs.case.are_four_same.Goals as goal

pub returns : goal.returns
returns c =
    let word = take_rest c.args.word.now c.args.at in
    let text = take_rest c.args.text.now c.args.at in
    fours c.args.word.now c.args.text.now c.args.at c.first_four.result c.first_four-2.result
    (c.first_four.ensures.value ∙ ap four_of word) (c.first_four-2.ensures.value ∙ ap four_of text)
    (subst AreFourBytes word c.first_four.ensures.bytes) (subst AreFourBytes text c.first_four-2.ensures.bytes)
    c.requires.capitals c.requires.within.1
