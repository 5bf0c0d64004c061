use Rattle.std.proofs.Common.{◌∙◌, ◌++◌, ap, sym, take}
use Rattle.std.proofs.lemmas.List.{flat_map_more}
use Rattle.shown_words.specs.Shown.{word_part, words_part}
use Rattle.shown_words.proofs.shown.push_words.Goals as goal
use Rattle.squawk_words.proofs.Places.{take_at}

pub loop-i-preserved : goal.loop-i-preserved
loop-i-preserved c =
    let l = c.loop-i in
    let words = c.args.words.now in
    let word = c.get.result.now in
    let first = c.args.to.now.items in
    c.in_ok-push_word.ensures ∙ (ap (λ bs. bs ++ word_part word) l.invariant
    ∙ (flat_map_more word_part first (take l.i words) word ∙ ap (λ ws. first ++ words_part ws) (sym (take_at words l.i word c.get.ensures))))
