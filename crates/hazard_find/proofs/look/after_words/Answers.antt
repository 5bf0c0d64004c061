use Rattle.std.proofs.Common.{sym, ◌∙◌}
use Rattle.hazard_find.proofs.LookLaws.{word_missing, word_there}
use Rattle.hazard_find.proofs.look.after_words.Goals as goal

pub returns-in-None : goal.returns-in-None
returns-in-None c =
    word_missing c.args.p.now c.args.end c.args.words.now c.loop-word.word-index c.loop-word.at _ _ c.loop-word-test.true c.loop-word.invariant (sym c.in-None.is ∙ c.after_word.ensures)

pub loop-word-preserved : goal.loop-word-preserved
loop-word-preserved c =
    word_there c.args.p.now c.args.end c.args.words.now c.loop-word.word-index c.loop-word.at c.in-Some.next _ _ c.loop-word-test.true c.loop-word.invariant (sym c.in-Some.is ∙ c.after_word.ensures)
