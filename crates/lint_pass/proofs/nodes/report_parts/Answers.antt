use Rattle.std.proofs.Common.{rules}
use Rattle.std.specs.List.{flat_map}
use Rattle.lint_node.specs.Parts.{new_constraints}
use Rattle.lint_base.specs.GrownLaws.{at_err, grown_by_first, grown_by_second}
use Rattle.lint_pass.specs.NodeWalk.{at_constraint, at_piece}
use Rattle.lint_pass.proofs.PartLaws.{second_whole}
use Rattle.lint_pass.proofs.nodes.report_parts.Goals as goal

pub returns-in_err-report_constraints-clause-ok : goal.returns-in_err-report_constraints-clause-ok
returns-in_err-report_constraints-clause-ok g c = search rules

pub returns-in_err-report_constraints-clause-err : goal.returns-in_err-report_constraints-clause-err
returns-in_err-report_constraints-clause-err g c =
    let here = flat_map (at_constraint (g.R.NodeReader.by c.args.r.now) c.args.p.now c.args.kind) (new_constraints c.args.a.now) in
    let later = flat_map (at_piece (g.R.NodeReader.by c.args.r.now) c.args.p.now c.args.kind) c.args.a.now.pieces in
    let h = rw c.new_constraints.ensures at c.in_err-report_constraints.ensures.err in
    at_err _ (grown_by_first c.args.out.now c.report_constraints.new.out here later h)

pub returns-in_err-report_pieces-clause-ok : goal.returns-in_err-report_pieces-clause-ok
returns-in_err-report_pieces-clause-ok g c = search rules

pub returns-in_err-report_pieces-clause-err : goal.returns-in_err-report_pieces-clause-err
returns-in_err-report_pieces-clause-err g c =
    let here = flat_map (at_constraint (g.R.NodeReader.by c.args.r.now) c.args.p.now c.args.kind) (new_constraints c.args.a.now) in
    let later = flat_map (at_piece (g.R.NodeReader.by c.args.r.now) c.args.p.now c.args.kind) c.args.a.now.pieces in
    let h = rw c.new_constraints.ensures at c.in_ok-report_constraints.ensures.ok in
    let k = rw c.as_slice.ensures at c.in_err-report_pieces.ensures.err in
    at_err _ (grown_by_second c.args.out.now c.report_constraints.new.out c.report_pieces.new.out here later h k)

pub returns-clause-ok : goal.returns-clause-ok
returns-clause-ok g c =
    let here = flat_map (at_constraint (g.R.NodeReader.by c.args.r.now) c.args.p.now c.args.kind) (new_constraints c.args.a.now) in
    let later = flat_map (at_piece (g.R.NodeReader.by c.args.r.now) c.args.p.now c.args.kind) c.args.a.now.pieces in
    let h = rw c.new_constraints.ensures at c.in_ok-report_constraints.ensures.ok in
    let k = rw c.as_slice.ensures at c.in_ok-report_pieces.ensures.ok in
    second_whole c.args.out.now c.report_constraints.new.out c.report_pieces.new.out here later h k

pub returns-clause-err : goal.returns-clause-err
returns-clause-err g c = tt
