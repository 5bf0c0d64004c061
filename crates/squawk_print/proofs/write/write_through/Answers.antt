use Rattle.std.proofs.Common.{length, subst}
use Rattle.devices.proofs.PartLaws.{part_more}
use Rattle.devices.specs.Parts.{AppendsPart}
use Rattle.squawk_print.specs.Written.{AppendsBut, last_line}
use Rattle.squawk_print.proofs.Pieces.{all_after_but, but_more, part_after_but, printed_is}
use Rattle.squawk_print.proofs.write.write_through.Goals as goal

pub returns-in_err-write_each-clause-part : goal.returns-in_err-write_each-clause-part
returns-in_err-write_each-clause-part g c =
    let vs = c.args.violations.now in
    subst (AppendsPart _ _) (printed_is _ vs c.requires.empty) (part_more _ _ _ (last_line (length vs)) c.write_each.ensures.part)

pub returns-clause-whole : goal.returns-clause-whole
returns-clause-whole g c =
    let vs = c.args.violations.now in
    let more = but_more _ _ _ _ (last_line (length vs)) c.in_ok-write_each.ensures.whole in
    let all = subst (AppendsBut _ _ _) (printed_is _ vs c.requires.empty) more in
    all_after_but _ _ _ _ _ _ all c.write_last.ensures.whole

pub returns-clause-part : goal.returns-clause-part
returns-clause-part g c =
    let vs = c.args.violations.now in
    let more = but_more _ _ _ _ (last_line (length vs)) c.in_ok-write_each.ensures.whole in
    let all = subst (AppendsBut _ _ _) (printed_is _ vs c.requires.empty) more in
    part_after_but _ _ _ _ _ all c.write_last.ensures.part
