use Rattle.std.proofs.Common.{arith, length-drop, subst, sym}
use Rattle.std.proofs.Math.Seq.{take-add}
use Rattle.std.specs.Io.KnownBytes.{Appends}
use Rattle.std.proofs.KnownBytes.{Appends-trans}
use Rattle.devices.proofs.PartLaws.{part_kept, rest_is}
use Rattle.devices.proofs.whole.write_all.Goals as goal

pub writing-preserved : goal.writing-preserved
writing-preserved g c =
    let n = c.in-Ok.count in
    let i = c.writing.at in
    let e = rest_is i c.args.bytes.now in
    let b = rw e at c.in-Ok.ensures.bound in
    let w = rw e at c.in-Ok.ensures.bytes in
    record {
      at_most = omega (arith, b, length-drop i c.args.bytes.now);
      put = subst (Appends _ _) (sym (take-add i n c.args.bytes.now)) (Appends-trans _ _ _ _ _ c.writing.invariant.put w);
      later = omega (arith, c.in-Ok.ensures.cause.later);
    }

pub returns-in-Err-clause-part : goal.returns-in-Err-clause-part
returns-in-Err-clause-part g c = part_kept _ _ _ c.writing.at c.args.bytes.now c.writing.invariant.put c.in-Err.ensures.bytes
