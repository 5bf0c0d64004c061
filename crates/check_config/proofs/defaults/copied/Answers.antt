use Rattle.std.proofs.Common.{◌≡◌, ◌∙◌, ◌++◌, ◌∷◌, [], List, ap, sym}
use Rattle.squawk_run.specs.squawk_words.Words.{Text}
use Rattle.check_config.proofs.Finds.{take_at}
use Rattle.check_config.proofs.defaults.copied.Goals as goal

pub loop-i-preserved : goal.loop-i-preserved
loop-i-preserved c =
    let l = c.loop-i in
    let word = c.get.result.now in
    let more : c.push.new.self ≡ l.all ++ word ∷ [] = c.in_ok-push.ensures in
    more ∙ (ap (λ (all : List Text). all ++ word ∷ []) l.invariant ∙ sym (take_at c.args.words.now l.i word c.get.ensures))
