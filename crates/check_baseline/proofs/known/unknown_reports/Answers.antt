use Rattle.std.proofs.Common.{◌≡◌, ap, arith, subst, true}
use Rattle.std.specs.Prelude.{not}
use Rattle.checked_file.specs.Sound.{IsReportIn}
use Rattle.check_baseline.specs.Known.{is_known, unknown_reports}
use Rattle.check_baseline.proofs.Steps.{all_after, kept_more}
use Rattle.check_baseline.proofs.known.unknown_reports.Goals as goal

pub loop-report-preserved-in_ok-push : goal.loop-report-preserved-in_ok-push
loop-report-preserved-in_ok-push c = record {
  kept = kept_more (λ v. not (is_known c.args.baseline.now c.args.name.now c.args.text.now v)) c.loop-report.kept.items c.push.new.self.items c.in-Some.report
      c.loop-report.report-iterator.rest.items c.next.new.self.rest.items (unknown_reports c.args.baseline.now c.args.name.now c.args.text.now c.args.reports.items)
      c.in-Some.ensures.steps.0 (subst (λ b. not b ≡ true) c.in_ok-is_known.ensures (ap not c.if-not-branch.true)) c.in_ok-push.ensures.items c.loop-report.invariant.kept;
  placed = all_after (IsReportIn c.args.text.now) c.in-Some.report c.loop-report.report-iterator.rest.items c.next.new.self.rest.items
      c.in-Some.ensures.steps.0 c.loop-report.invariant.placed;
}

pub loop-report-preserved-else-not-branch : goal.loop-report-preserved-else-not-branch
loop-report-preserved-else-not-branch c = record {
  kept = grind arith;
  placed = all_after (IsReportIn c.args.text.now) c.in-Some.report c.loop-report.report-iterator.rest.items c.next.new.self.rest.items
      c.in-Some.ensures.steps.0 c.loop-report.invariant.placed;
}

pub loop-report-preserved : goal.loop-report-preserved
loop-report-preserved c = record {
  kept = grind arith;
  placed = all_after (IsReportIn c.args.text.now) c.in-Some.report c.loop-report.report-iterator.rest.items c.next.new.self.rest.items
      c.in-Some.ensures.steps.0 c.loop-report.invariant.placed;
}
