use Rattle.std.proofs.Common.{◌∙◌, ap, sym, refl}
use Rattle.hazard_find.specs.Shown.{shows_first}
use Rattle.hazard_find.proofs.ShownLaws.{rest_is, shows_here, shows_next, shows_none}
use Rattle.hazard_find.proofs.shown.shows.Goals as goal

pub returns-then-shows_first : goal.returns-then-shows_first
returns-then-shows_first c =
    shows_here c.args.word.now c.args.text.now c.loop-i.place c.loop-i.before c.loop-i.i 0 _ c.loop-i-test.true c.loop-i.invariant
    (sym c.if-shows_first.true ∙ (c.shows_first.ensures ∙ ap (shows_first c.args.word.now c.loop-i.place c.loop-i.before) (rest_is c.args.text.now c.loop-i.i)))

pub loop-i-preserved : goal.loop-i-preserved
loop-i-preserved c =
    shows_next c.args.word.now c.args.text.now c.loop-i.place _ c.loop-i.before _ c.loop-i.i 0 _ c.loop-i-test.true c.loop-i.invariant
    (sym c.if-shows_first.false ∙ (c.shows_first.ensures ∙ ap (shows_first c.args.word.now c.loop-i.place c.loop-i.before) (rest_is c.args.text.now c.loop-i.i))) refl c.place_after-place.ensures

pub returns : goal.returns
returns c = shows_none c.args.word.now c.args.text.now c.loop-i.place c.loop-i.before c.loop-i.i _ c.loop-i-test.false c.loop-i.invariant
