use Rattle.std.proofs.Common.{◌++◌, get_or, arith}
use Rattle.std.proofs.lemmas.List.{get_or_default}
use Rattle.squawk_print.specs.Escaped.{escaped, escaped_byte}
use Rattle.lint_base.specs.GrownLaws.{at_err}
use Rattle.squawk_print.specs.Room.{LacksRoom}
use Rattle.squawk_print.proofs.Pushes.{each_pushed, each_lacks, each_end}
use Rattle.squawk_print.proofs.escape.push_each.Goals as goal

pub returns-in_err-push_byte-clause-full : goal.returns-in_err-push_byte-clause-full
returns-in_err-push_byte-clause-full c =
    let xs = c.args.text.now in
    let l = c.loop-byte in
    let b = get_or xs l.byte-index 0 in
    let here = get_or_default xs l.byte-index 0 b c.loop-byte-test.true in
    at_err {P = LacksRoom c.args.to.now (escaped xs)} _
    (each_lacks escaped_byte xs l.byte-index b l.to.items (c.args.to.now.items ++ escaped xs) _ _
    c.loop-byte-test.true here l.invariant.grown l.invariant.capacity c.in_err-push_byte.ensures.full)

pub loop-byte-preserved : goal.loop-byte-preserved
loop-byte-preserved c =
    let xs = c.args.text.now in
    let l = c.loop-byte in
    let b = get_or xs l.byte-index 0 in
    let here = get_or_default xs l.byte-index 0 b c.loop-byte-test.true in
    record {
      grown = each_pushed escaped_byte xs l.byte-index b l.to.items c.push_byte.new.to.items (c.args.to.now.items ++ escaped xs)
          c.loop-byte-test.true here l.invariant.grown c.in_ok-push_byte.ensures.grown;
      capacity = omega arith;
    }

pub returns-clause-grown : goal.returns-clause-grown
returns-clause-grown c =
    let xs = c.args.text.now in
    let l = c.loop-byte in
    each_end escaped_byte xs l.byte-index l.to.items (c.args.to.now.items ++ escaped xs) c.loop-byte-test.false l.invariant.grown
