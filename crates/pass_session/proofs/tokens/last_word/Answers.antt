use Rattle.std.proofs.Common.{◌∙◌, sym}
use Rattle.pass_session.proofs.SourceLaws.{word_before, word_first, word_here}
use Rattle.pass_session.proofs.tokens.last_word.Goals as goal

pub loop-number-preserved : goal.loop-number-preserved
loop-number-preserved c =
    word_before c.args.p.now c.args.first c.loop-number.number c.loop-number-test.true (sym c.is_word_at.ensures ∙ c.if-not-is_word_at.true) ∙ c.loop-number.invariant

pub returns-else-not-is_word_at : goal.returns-else-not-is_word_at
returns-else-not-is_word_at c =
    sym (word_here c.args.p.now c.args.first c.loop-number.number (sym c.is_word_at.ensures ∙ c.if-not-is_word_at.false)) ∙ c.loop-number.invariant

pub returns-after-loop-number : goal.returns-after-loop-number
returns-after-loop-number c =
    sym (word_first c.args.p.now c.args.first c.loop-number.number c.loop-number-test.false) ∙ c.loop-number.invariant
