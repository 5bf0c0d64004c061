use Rattle.squawk_print.specs.Printed as spec
use Rattle.devices.proofs.PartLaws.{part_more}
use Rattle.squawk_print.proofs.Pieces.{but_more, part_but}
use Rattle.squawk_print.proofs.write.write_one.Goals as goal

pub returns-in_err-make_way-clause-part : goal.returns-in_err-make_way-clause-part
returns-in_err-make_way-clause-part g c = part_more _ _ _ (spec.printed_violation c.args.violation.now) c.make_way.ensures.part

pub returns-clause-part : goal.returns-clause-part
returns-clause-part g c =
    let more = but_more _ _ _ _ (spec.printed_violation c.args.violation.now) c.in_ok-make_way.ensures.whole in
    part_but _ _ _ _ more
