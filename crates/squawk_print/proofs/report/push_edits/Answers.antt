use Rattle.std.proofs.Common.{◌++◌, arith}
use Rattle.std.specs.List.{flat_map}
use Rattle.squawk_print.specs.Printed.{printed_edit}
use Rattle.lint_base.specs.GrownLaws.{at_err}
use Rattle.squawk_print.specs.Room.{LacksRoom}
use Rattle.squawk_print.proofs.Pushes.{each_pushed, each_lacks, each_end}
use Rattle.squawk_print.proofs.report.push_edits.Goals as goal

pub returns-in_err-push_edit-clause-full : goal.returns-in_err-push_edit-clause-full
returns-in_err-push_edit-clause-full c =
    let xs = c.args.edits.now in
    let l = c.loop-edit in
    let all = flat_map printed_edit xs in
    at_err {P = LacksRoom c.args.to.now all} _
    (each_lacks printed_edit xs l.edit-index c.edit-item.result l.to.items (c.args.to.now.items ++ all) _ _
    c.loop-edit-test.true c.edit-item.is l.invariant.grown l.invariant.capacity c.in_err-push_edit.ensures.full)

pub loop-edit-preserved : goal.loop-edit-preserved
loop-edit-preserved c =
    let xs = c.args.edits.now in
    let l = c.loop-edit in
    let all = c.args.to.now.items ++ flat_map printed_edit xs in
    record {
      grown = each_pushed printed_edit xs l.edit-index c.edit-item.result l.to.items c.push_edit.new.to.items all
          c.loop-edit-test.true c.edit-item.is l.invariant.grown c.in_ok-push_edit.ensures.grown;
      capacity = omega arith;
    }

pub returns-clause-grown : goal.returns-clause-grown
returns-clause-grown c =
    let xs = c.args.edits.now in
    let l = c.loop-edit in
    let all = c.args.to.now.items ++ flat_map printed_edit xs in
    each_end printed_edit xs l.edit-index l.to.items all c.loop-edit-test.false l.invariant.grown
