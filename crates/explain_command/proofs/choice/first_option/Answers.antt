use Rattle.std.proofs.Common.{◌∙◌, sym}
use Rattle.explain_command.proofs.Words.{option_here, option_later}
use Rattle.explain_command.proofs.choice.first_option.Goals as goal

pub returns-then-begins_with_dash : goal.returns-then-begins_with_dash
returns-then-begins_with_dash c =
    let l = c.loop-i in
    sym (sym l.invariant ∙ option_here c.args.words.now l.i c.get-word.result.now c.get-word.ensures (sym c.if-begins_with_dash.ensures))

pub loop-i-preserved : goal.loop-i-preserved
loop-i-preserved c =
    let l = c.loop-i in
    sym (option_later c.args.words.now l.i c.get-word.result.now c.get-word.ensures (sym c.if-begins_with_dash.ensures)) ∙ l.invariant
