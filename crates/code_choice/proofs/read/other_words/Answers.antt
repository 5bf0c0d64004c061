use Rattle.std.proofs.Common.{◌≡◌, ◌∙◌, ◌++◌, List, ap, sym}
use Rattle.squawk_run.specs.squawk_words.Words.{Text}
use Rattle.code_choice.specs.Choices.{other_word}
use Rattle.code_choice.proofs.ChosenWords.{flat_next}
use Rattle.code_choice.proofs.read.other_words.Goals as goal

pub loop-i-preserved : goal.loop-i-preserved
loop-i-preserved c =
    let l = c.loop-i in
    let word = c.get.result.now in
    let more : c.push_other.new.rest ≡ l.rest ++ other_word word = c.in_ok-push_other.ensures in
    more ∙ (ap (λ (all : List Text). all ++ other_word word) l.invariant ∙ sym (flat_next other_word c.args.words.now l.i word c.get.ensures))
