use Rattle.std.proofs.Common.{◌∙◌, sym}
use Rattle.check_words.proofs.Items.{first_more, none_left}
use Rattle.check_words.proofs.lists.first_unnamed.Goals as goal

pub returns-then-names_nothing : goal.returns-then-names_nothing
returns-then-names_nothing c =
    let l = c.loop-item in
    sym (first_more c.args.items.now l.item-index _ _ c.loop-item-test.true (sym c.names_nothing.ensures ∙ c.if-names_nothing.true)) ∙ l.invariant

pub loop-item-preserved : goal.loop-item-preserved
loop-item-preserved c =
    let l = c.loop-item in
    sym (first_more c.args.items.now l.item-index _ _ c.loop-item-test.true (sym c.names_nothing.ensures ∙ c.if-names_nothing.false)) ∙ l.invariant

pub returns : goal.returns
returns c =
    let l = c.loop-item in
    sym (none_left c.args.items.now l.item-index c.loop-item-test.false) ∙ l.invariant
