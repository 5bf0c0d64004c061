use Rattle.std.proofs.Common.{codes, decimal}
use Rattle.squawk_print.specs.Written.{last_line}
use Rattle.squawk_print.proofs.Pieces.{count_regrouped}
use Rattle.squawk_print.proofs.report.push_count.Goals as goal

pub returns-clause-grown : goal.returns-clause-grown
unfolding last_line
returns-clause-grown c =
    let e0 = c.in_ok-extend_from_slice.ensures.items in
    let e1 = c.in_ok-push_number.ensures.grown in
    let e2 = c.in_ok-extend_from_slice-2.ensures.items in
    let j = count_regrouped c.args.to.now.items (codes "violations: ") (decimal c.args.count) (codes "\n") in cc
