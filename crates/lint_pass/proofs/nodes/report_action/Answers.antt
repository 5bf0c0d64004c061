use Rattle.std.proofs.Common.{◌++◌, ◌∙◌, ap, rules, subst}
use Rattle.lint_base.specs.Grown.{GrownBy}
use Rattle.lint_base.specs.GrownLaws.{at_err, grown_by_first}
use Rattle.lint_pass.specs.declared.nodes.Node.TheVariants as node
use Rattle.lint_pass.proofs.PartLaws.{second_whole}
use Rattle.lint_pass.proofs.nodes.report_action.Goals as goal

pub returns-in_err-report_node-clause-ok : goal.returns-in_err-report_node-clause-ok
returns-in_err-report_node-clause-ok g c = search rules

pub returns-in_err-report_node-clause-err : goal.returns-in_err-report_node-clause-err
returns-in_err-report_node-clause-err g c =
    let at = ap (g.R.NodeReader.by c.args.r.now (node.Action c.args.kind c.args.a.now.kind)) c.span_range.ensures in
    let front = subst (λ xs. GrownBy c.args.out.now c.report_node.new.out xs) at c.in_err-report_node.ensures.err in
    at_err _ (grown_by_first _ _ _ _ front)

pub returns-in_err-report_parts-clause-ok : goal.returns-in_err-report_parts-clause-ok
returns-in_err-report_parts-clause-ok g c = search rules

pub returns-clause-ok : goal.returns-clause-ok
returns-clause-ok g c =
    let at = ap (g.R.NodeReader.by c.args.r.now (node.Action c.args.kind c.args.a.now.kind)) c.span_range.ensures in
    second_whole _ _ _ _ _ (c.in_ok-report_node.ensures.ok ∙ ap (λ xs. c.args.out.now ++ xs) at) c.in_ok-report_parts.ensures.ok

pub returns-clause-err : goal.returns-clause-err
returns-clause-err g c = search rules
