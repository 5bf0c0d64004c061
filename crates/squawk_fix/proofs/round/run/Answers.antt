use Rattle.std.proofs.Common.{◌∙◌, ◌<◌, ◌^◌, List, length, sym, subst, arith}
use Rattle.std.proofs.lemmas.Str.{IsUtf8-string_bytes}
use Rattle.std.specs.Prelude.{string_bytes}
use Rattle.law_next_fix.specs.sql_token.Token.{Text}
use Rattle.squawk_run.specs.lint_base.declared.violation.Violation.{Violation}
use Rattle.law_next_fix.specs.fix_choice.Fits.{CanBeTried}
use Rattle.squawk_fix.specs.Round.{IsNextFix, IsNextText}
use Rattle.squawk_fix.proofs.Runs.{Progress, begun, known_of, laws_of, skipped, stepped, tried}
use Rattle.squawk_fix.proofs.round.run.Goals as goal

pub loop-report-init : goal.loop-report-init
loop-report-init c =
    let laws = laws_of c.fitting_fixes_step.ensures.tried c.fitting_fixes_step.ensures.may c.answers_placed.ensures.placed c.answers_ascend.ensures c.answers_leave.ensures in
    record { progress = λ a. begun c.args.text.now c.args.reports.now a laws (string_bytes c.in_ok-made.made) c.in_ok-made.ensures.ok }

pub next_made-requires-clause-short : goal.next_made-requires-clause-short
next_made-requires-clause-short c =
    let ran = (c.loop-report.invariant.progress c.requires.answered).ran in
    subst (λ (t : Text). length t < 2 ^ 32) (ran.of_text.0 ∙ sym c.as_str.ensures.value) ran.of_text.1.short

pub next_made-requires-clause-tried : goal.next_made-requires-clause-tried
next_made-requires-clause-tried c = λ fix n.
    (let a = c.requires.answered in
    let p = subst (λ (l : List Violation). Progress c.args.text.now c.args.reports.now a l (string_bytes c.loop-report.made) c.loop-report.applied) c.in-Some.ensures.cases.0 (c.loop-report.invariant.progress a) in
    let laws = laws_of c.fitting_fixes_step.ensures.tried c.fitting_fixes_step.ensures.may c.answers_placed.ensures.placed c.answers_ascend.ensures c.answers_leave.ensures in
    let here = subst (λ (t : Text). IsNextFix c.in-Some.report.now c.in-Some.later.now (length c.args.text.now) (length t) fix) c.as_str.ensures.value n in
    subst (λ (t : Text). CanBeTried t fix) (sym c.as_str.ensures.value)
    (tried c.args.text.now c.args.reports.now a laws c.in-Some.report.now c.in-Some.later.now (string_bytes c.loop-report.made) c.loop-report.applied p (IsUtf8-string_bytes c.loop-report.made) fix here))

pub overflow_add-applied : goal.overflow_add-applied
overflow_add-applied c =
    let a = c.requires.answered in
    let p = subst (λ (l : List Violation). Progress c.args.text.now c.args.reports.now a l (string_bytes c.loop-report.made) c.loop-report.applied) c.in-Some.ensures.cases.0 (c.loop-report.invariant.progress a) in
    let laws = laws_of c.fitting_fixes_step.ensures.tried c.fitting_fixes_step.ensures.may c.answers_placed.ensures.placed c.answers_ascend.ensures c.answers_leave.ensures in
    let next = known_of (λ x. IsNextText c.in-Some.report.now c.in-Some.later.now (length c.args.text.now) (length c.as_str.result.now) c.as_str.result.now (string_bytes x)) c.in_ok-next.field-0 c.in_ok-next.ensures c.in-Some-2.next c.in-Some-2.is in
    let here = subst (λ (t : Text). IsNextText c.in-Some.report.now c.in-Some.later.now (length c.args.text.now) (length t) t (string_bytes c.in-Some-2.next)) c.as_str.ensures.value next in
    let step = stepped c.args.text.now c.args.reports.now a laws c.in-Some.report.now c.in-Some.later.now (string_bytes c.loop-report.made) c.loop-report.applied p (IsUtf8-string_bytes c.loop-report.made)
    (string_bytes c.in-Some-2.next) (IsUtf8-string_bytes c.in-Some-2.next) here in
    let few = step.ran.few in
    let small = c.load_is_small.ensures a.tree a.rules a.settings a.of_text.1 in
    omega (arith, few, small)

pub loop-report-preserved-then-is_listed : goal.loop-report-preserved-then-is_listed
loop-report-preserved-then-is_listed c = record {
  progress = λ a.
      (let p = subst (λ (l : List Violation). Progress c.args.text.now c.args.reports.now a l (string_bytes c.loop-report.made) c.loop-report.applied) c.in-Some.ensures.cases.0 (c.loop-report.invariant.progress a) in
      let laws = laws_of c.fitting_fixes_step.ensures.tried c.fitting_fixes_step.ensures.may c.answers_placed.ensures.placed c.answers_ascend.ensures c.answers_leave.ensures in
      let next = known_of (λ x. IsNextText c.in-Some.report.now c.in-Some.later.now (length c.args.text.now) (length c.as_str.result.now) c.as_str.result.now (string_bytes x)) c.in_ok-next.field-0 c.in_ok-next.ensures c.in-Some-2.next c.in-Some-2.is in
      let here = subst (λ (t : Text). IsNextText c.in-Some.report.now c.in-Some.later.now (length c.args.text.now) (length t) t (string_bytes c.in-Some-2.next)) c.as_str.ensures.value next in
      stepped c.args.text.now c.args.reports.now a laws c.in-Some.report.now c.in-Some.later.now (string_bytes c.loop-report.made) c.loop-report.applied p (IsUtf8-string_bytes c.loop-report.made)
      (string_bytes c.in-Some-2.next) (IsUtf8-string_bytes c.in-Some-2.next) here);
}

pub loop-report-preserved : goal.loop-report-preserved
loop-report-preserved c = record {
  progress = λ a.
      (let p = subst (λ (l : List Violation). Progress c.args.text.now c.args.reports.now a l (string_bytes c.loop-report.made) c.loop-report.applied) c.in-Some.ensures.cases.0 (c.loop-report.invariant.progress a) in
      skipped c.args.text.now c.args.reports.now a c.in-Some.report.now c.in-Some.later.now (string_bytes c.loop-report.made) c.loop-report.applied (sym c.is_listed.ensures ∙ c.if-is_listed.false) p);
}

pub returns : goal.returns
returns c = λ a. (c.loop-report.invariant.progress a).ran
