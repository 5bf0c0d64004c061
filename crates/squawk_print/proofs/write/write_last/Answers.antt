use Rattle.std.proofs.Common.{◌∙◌, subst}
use Rattle.devices.proofs.PartLaws.{part_more}
use Rattle.devices.specs.Parts.{AppendsPart}
use Rattle.squawk_print.specs.Written.{last_line}
use Rattle.squawk_print.proofs.Pieces.{but_more, part_after_but}
use Rattle.squawk_print.proofs.write.write_last.Goals as goal

pub returns-in_err-make_way-clause-part : goal.returns-in_err-make_way-clause-part
returns-in_err-make_way-clause-part g c = part_more _ _ _ (last_line c.args.count) c.make_way.ensures.part

pub returns-clause-part : goal.returns-clause-part
returns-clause-part g c =
    let more = but_more _ _ _ _ (last_line c.args.count) c.in_ok-make_way.ensures.whole in
    let all = c.deref.ensures.value ∙ c.in-Ok.ensures.grown in
    part_after_but _ _ _ _ _ more (subst (AppendsPart _ _) all c.write_all.ensures.part)
