use Rattle.std.proofs.Common.{◌∙◌, map, sym}
use Rattle.squawk_run.specs.ForeignWords.{is_foreign_word}
use Rattle.squawk_run.proofs.Search.{found_in, none_next}
use Rattle.squawk_run.proofs.foreign.has_foreign_word.Goals as goal

pub returns-then-is_foreign_word : goal.returns-then-is_foreign_word
returns-then-is_foreign_word c =
    sym (found_in (is_foreign_word (map (λ n. n.now) c.args.names.now)) c.args.words.now c.loop-i.i c.get.result.now c.get.ensures (sym c.is_foreign_word.ensures ∙ c.if-is_foreign_word.true))

pub loop-i-preserved : goal.loop-i-preserved
loop-i-preserved c = none_next (is_foreign_word (map (λ n. n.now) c.args.names.now)) c.args.words.now c.loop-i.i c.get.result.now c.loop-i.invariant c.get.ensures (sym c.is_foreign_word.ensures ∙ c.if-is_foreign_word.false)
