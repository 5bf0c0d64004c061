use Rattle.std.proofs.Common.{◌++◌, arith}
use Rattle.std.specs.List.{flat_map}
use Rattle.squawk_print.specs.Printed.{printed_violation}
use Rattle.lint_base.specs.GrownLaws.{at_err}
use Rattle.squawk_print.specs.Room.{LacksRoom}
use Rattle.squawk_print.proofs.Pushes.{each_pushed, each_lacks, each_end}
use Rattle.squawk_print.proofs.report.push_each.Goals as goal

pub returns-in_err-push_violation-clause-full : goal.returns-in_err-push_violation-clause-full
returns-in_err-push_violation-clause-full c =
    let xs = c.args.violations.now in
    let l = c.loop-violation in
    let all = flat_map printed_violation xs in
    at_err {P = LacksRoom c.args.to.now all} _
    (each_lacks printed_violation xs l.violation-index c.violation-item.result l.to.items (c.args.to.now.items ++ all) _ _
    c.loop-violation-test.true c.violation-item.is l.invariant.grown l.invariant.capacity c.in_err-push_violation.ensures.full)

pub loop-violation-preserved : goal.loop-violation-preserved
loop-violation-preserved c =
    let xs = c.args.violations.now in
    let l = c.loop-violation in
    let all = c.args.to.now.items ++ flat_map printed_violation xs in
    record {
      grown = each_pushed printed_violation xs l.violation-index c.violation-item.result l.to.items c.push_violation.new.to.items all
          c.loop-violation-test.true c.violation-item.is l.invariant.grown c.in_ok-push_violation.ensures.grown;
      capacity = omega arith;
    }

pub returns-clause-grown : goal.returns-clause-grown
returns-clause-grown c =
    let xs = c.args.violations.now in
    let l = c.loop-violation in
    let all = c.args.to.now.items ++ flat_map printed_violation xs in
    each_end printed_violation xs l.violation-index l.to.items all c.loop-violation-test.false l.invariant.grown
