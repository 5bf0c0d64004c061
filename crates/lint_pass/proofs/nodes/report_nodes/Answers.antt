use Rattle.std.proofs.Common.{rules}
use Rattle.std.specs.List.{flat_map}
use Rattle.lint_ignore.specs.sql_tree.Nodes.{actions_in}
use Rattle.lint_base.specs.GrownLaws.{at_err, grown_by_first, grown_by_second}
use Rattle.lint_pass.specs.NodeWalk.{at_action}
use Rattle.lint_pass.proofs.PartLaws.{second_whole}
use Rattle.lint_pass.proofs.nodes.report_nodes.Goals as goal

pub returns-in_err-report_statement-clause-ok : goal.returns-in_err-report_statement-clause-ok
returns-in_err-report_statement-clause-ok g c = search rules

pub returns-in_err-report_statement-clause-err : goal.returns-in_err-report_statement-clause-err
returns-in_err-report_statement-clause-err g c =
    let here = g.R.NodeReader.on c.args.r.now c.args.p.now c.args.s.now in
    let later = flat_map (at_action (g.R.NodeReader.by c.args.r.now) c.args.p.now c.args.s.now.kind) (actions_in c.args.s.now.body) in
    at_err _ (grown_by_first c.args.out.now c.report_statement.new.out here later c.in_err-report_statement.ensures.err)

pub returns-in_err-report_actions-clause-ok : goal.returns-in_err-report_actions-clause-ok
returns-in_err-report_actions-clause-ok g c = search rules

pub returns-in_err-report_actions-clause-err : goal.returns-in_err-report_actions-clause-err
returns-in_err-report_actions-clause-err g c =
    let here = g.R.NodeReader.on c.args.r.now c.args.p.now c.args.s.now in
    let later = flat_map (at_action (g.R.NodeReader.by c.args.r.now) c.args.p.now c.args.s.now.kind) (actions_in c.args.s.now.body) in
    let h = rw c.actions_of.ensures at c.in_err-report_actions.ensures.err in
    at_err _ (grown_by_second c.args.out.now c.report_statement.new.out c.report_actions.new.out here later c.in_ok-report_statement.ensures.ok h)

pub returns-clause-ok : goal.returns-clause-ok
returns-clause-ok g c =
    let here = g.R.NodeReader.on c.args.r.now c.args.p.now c.args.s.now in
    let later = flat_map (at_action (g.R.NodeReader.by c.args.r.now) c.args.p.now c.args.s.now.kind) (actions_in c.args.s.now.body) in
    let h = rw c.actions_of.ensures at c.in_ok-report_actions.ensures.ok in
    second_whole c.args.out.now c.report_statement.new.out c.report_actions.new.out here later c.in_ok-report_statement.ensures.ok h

pub returns-clause-err : goal.returns-clause-err
returns-clause-err g c = tt
