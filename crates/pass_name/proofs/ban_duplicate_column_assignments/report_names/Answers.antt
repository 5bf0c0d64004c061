use Rattle.std.proofs.Common.{◌∙◌, sym, ap, ◌++◌, arith}
use Rattle.lint_pass.proofs.PartLaws.{part_next}
use Rattle.pass_name.specs.BanDuplicateColumnAssignments as spec
use Rattle.pass_name.specs.Entries.{items_of}
use Rattle.pass_name.proofs.GatherLaws.{apart_reports}
use Rattle.pass_name.proofs.ReportLaws.{all_groups}
use Rattle.pass_name.proofs.ban_duplicate_column_assignments.report_names.Goals as goal

pub returns-then-are_apart : goal.returns-then-are_apart
returns-then-are_apart c =
    apart_reports c.args.kind c.args.p.now c.args.names.now c.args.out.now (sym c.are_apart.ensures ∙ c.if-are_apart.true)

pub loop-group-preserved : goal.loop-group-preserved
loop-group-preserved c =
    part_next (λ v. spec.reports_of_group c.args.kind c.args.p.now (items_of v)) c.deref-group-items.result.now c.loop-group.group-index c.group-item.result c.args.out.now c.loop-group.out c.report_group.new.out
    c.loop-group-test.true c.group-item.is c.loop-group.invariant
    (c.in_ok-report_group.ensures ∙ ap (λ g. c.loop-group.out ++ spec.reports_of_group c.args.kind c.args.p.now g) c.as_slice.ensures.value)

pub returns : goal.returns
returns c =
    all_groups c.args.kind c.args.p.now c.args.names.now c.args.out.now c.loop-group.out c.deref-group-items.result.now c.in_ok-gather.field-0.items c.loop-group.group-index
    (omega arith) c.deref-group-items.ensures.value c.in_ok-gather.ensures c.loop-group.invariant
