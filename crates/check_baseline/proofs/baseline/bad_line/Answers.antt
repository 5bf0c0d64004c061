use Rattle.std.proofs.Common.{◌∙◌, arith, sym}
use Rattle.check_baseline.proofs.Bad.{bad_more, none_bad}
use Rattle.check_baseline.proofs.baseline.bad_line.Goals as goal

pub returns-then-is_bad : goal.returns-then-is_bad
returns-then-is_bad c =
    let l = c.loop-line in
    sym (bad_more l.number c.args.lines.now l.line-index _ _ c.loop-line-test.true (sym c.is_bad.ensures ∙ c.if-is_bad.true)) ∙ l.invariant.found

pub loop-line-preserved : goal.loop-line-preserved
loop-line-preserved c =
    let l = c.loop-line in
    record {
      number = omega (arith, l.invariant.number);
      found = sym (bad_more l.number c.args.lines.now l.line-index _ _ c.loop-line-test.true (sym c.is_bad.ensures ∙ c.if-is_bad.false)) ∙ l.invariant.found;
    }

pub returns : goal.returns
returns c =
    let l = c.loop-line in
    sym (none_bad l.number c.args.lines.now l.line-index c.loop-line-test.false) ∙ l.invariant.found
