use Rattle.std.proofs.Common.{◌∙◌, sym, ap, ◌++◌, List}
use Rattle.std.proofs.lemmas.List.{append-nil}
use Rattle.lint_base.specs.declared.violation.Violation.{Violation}
use Rattle.lint_base.specs.Grown.{GrownBy}
use Rattle.lint_base.specs.GrownLaws.{at_err, grown_by_all}
use Rattle.pass_object.specs.ChangeLaws.{existing_off}
use Rattle.pass_object.proofs.ObjectLaws.{reported}
use Rattle.pass_object.proofs.existing_object_compatibility.ExistingObjectCompatibilityStepPass.step.Goals as goal

pub returns-then-not-is_some_enabled-clause-ok : goal.returns-then-not-is_some_enabled-clause-ok
returns-then-not-is_some_enabled-clause-ok c =
    sym (ap (λ (vs : List Violation). c.args.out.now ++ vs) (existing_off c.args.p.now c.args.rules.now c.args._i (sym c.is_some_enabled.ensures ∙ c.if-not-is_some_enabled.true)) ∙ append-nil c.args.out.now)

pub returns-in_err-report_unless-clause-err : goal.returns-in_err-report_unless-clause-err
returns-in_err-report_unless-clause-err c =
    at_err _
    (reported (λ vs. GrownBy c.args.out.now c.report_unless.new.out vs) c.args.p.now c.args.rules.now c.args._i c.has_changed-is_known.result c.args.s.now
    (c.has_changed-is_known.ensures c.args._i (c.requires.state (sym c.is_some_enabled.ensures ∙ c.if-not-is_some_enabled.false))) c.requires.stmt c.in_err-report_unless.ensures.err)

pub returns-in_err-update-clause-err : goal.returns-in_err-update-clause-err
returns-in_err-update-clause-err c =
    at_err _
    (reported (λ vs. GrownBy c.args.out.now c.report_unless.new.out vs) c.args.p.now c.args.rules.now c.args._i c.has_changed-is_known.result c.args.s.now
    (c.has_changed-is_known.ensures c.args._i (c.requires.state (sym c.is_some_enabled.ensures ∙ c.if-not-is_some_enabled.false))) c.requires.stmt
    (grown_by_all _ _ _ c.in_ok-report_unless.ensures.ok))
