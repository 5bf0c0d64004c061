use Rattle.squawk_print.proofs.of_devices.PartLaws.{part_after, part_more, part_whole}
use Rattle.std.proofs.KnownBytes.{Appends-trans}
use Rattle.squawk_print.specs.Printed.{printed}
use Rattle.squawk_print_locks.proofs.write.write_both.Goals as goal

pub returns-in_err-write_violations-clause-part : goal.returns-in_err-write_violations-clause-part
returns-in_err-write_violations-clause-part g c = part_more _ _ (printed c.args.violations.now) c.args.lines.now c.write_violations.ensures.part

pub returns-in-Err-clause-part : goal.returns-in-Err-clause-part
returns-in-Err-clause-part g c =
    part_after _ _ _ (printed c.args.violations.now) c.args.lines.now c.in_ok-write_violations.ensures.whole c.write_all.ensures.part

pub returns-in-Ok-clause-whole : goal.returns-in-Ok-clause-whole
returns-in-Ok-clause-whole g c =
    Appends-trans _ _ _ (printed c.args.violations.now) c.args.lines.now c.in_ok-write_violations.ensures.whole c.in-Ok.ensures.whole

pub returns-in-Ok-clause-part : goal.returns-in-Ok-clause-part
returns-in-Ok-clause-part g c =
    part_after _ _ _ (printed c.args.violations.now) c.args.lines.now c.in_ok-write_violations.ensures.whole (part_whole _ _ c.args.lines.now c.in-Ok.ensures.whole)
