use Rattle.std.proofs.Common.{◌∙◌, ◌<◌, ◌≤◌, arith, length, sym}
use Rattle.check_config.proofs.Places.{place_here, place_last, place_next, whole_rest}
use Rattle.check_config.proofs.place.first_place.Goals as goal

pub returns-then-is_here : goal.returns-then-is_here
returns-then-is_here c =
    let l = c.loop-i in
    let inside : l.i < length c.args.text.now = omega arith in
    let here = rw (whole_rest c.args.text.now l.i) at (sym c.is_here.ensures ∙ c.if-is_here.true) in
    sym (place_here c.args.anywhere c.args.name.now c.args.text.now l.i l.begins_line inside here) ∙ l.invariant

pub loop-i-preserved : goal.loop-i-preserved
loop-i-preserved c =
    let l = c.loop-i in
    let inside : l.i < length c.args.text.now = omega arith in
    let not_here = rw (whole_rest c.args.text.now l.i) at (sym c.is_here.ensures ∙ c.if-is_here.false) in
    sym (place_next c.args.anywhere c.args.name.now c.args.text.now l.i l.begins_line inside not_here) ∙ l.invariant

pub returns : goal.returns
returns c =
    let l = c.loop-i in
    let ended : length c.args.text.now ≤ l.i = omega arith in
    sym (place_last c.args.anywhere c.args.name.now c.args.text.now l.i l.begins_line ended) ∙ l.invariant
