use Rattle.std.proofs.Common.{◌≡◌, ◌∙◌, ◌+◌, ◌++◌, ◌∷◌, [], List, ap, arith, drop, filter}
use Rattle.refused_word.specs.squawk_words.Words.{Text}
use Rattle.server_command.specs.Asked.{is_taken, linter_words}
use Rattle.server_command.proofs.Rest.{rest_end, rest_next}
use Rattle.server_command.proofs.asked.linter_words.Goals as goal

pub loop-i-preserved : goal.loop-i-preserved
loop-i-preserved c =
    let l = c.loop-i in
    let word = c.get.result.now in
    let more : c.push_taken.new.rest ≡ l.rest ++ filter is_taken (word ∷ []) = c.in_ok-push_taken.ensures in
    ap (λ (rest : List Text). rest ++ filter is_taken (drop (l.i + 1) c.args.words.now)) more
    ∙ rest_next l.rest c.args.words.now (linter_words c.args.words.now) l.i word c.get.ensures l.invariant

pub returns : goal.returns
returns c = let l = c.loop-i in rest_end l.rest c.args.words.now (linter_words c.args.words.now) l.i (omega arith) l.invariant
