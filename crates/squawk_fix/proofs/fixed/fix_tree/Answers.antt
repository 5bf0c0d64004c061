use Rattle.std.proofs.Common.{List, sym, ap, ◌∙◌, subst, arith}
use Rattle.std.specs.Prelude.{All, string_bytes}
use Rattle.std.specs.Str.{IsUtf8}
use Rattle.law_next_fix.specs.sql_token.Token.{Text}
use Rattle.law_next_fix.specs.sql_tree.Statement.{IsValid}
use Rattle.squawk_run.specs.lint_base.declared.settings.LinterSettings.{LinterSettings}
use Rattle.squawk_run.specs.lint_base.declared.violation.Violation.{Violation}
use Rattle.squawk_run.specs.lint_base.RuleSets.{Rules}
use Rattle.law_next_fix.specs.fix_choice.Fits.{ListedCanBeTried}
use Rattle.law_next_fix.specs.squawk_linter.declared.linter.Linter.{Linter}
use Rattle.law_next_fix.specs.squawk_linter.Answers.{IsAnswer}
use Rattle.law_next_fix.specs.squawk_linter.Reports.{cleared}
use Rattle.squawk_fix.specs.Round.{Answered}
use Rattle.squawk_fix.proofs.Stages.{begun, from_here, is_valid, round_is, rounded, staged, tried}
use Rattle.squawk_fix.proofs.fixed.fix_tree.Goals as goal

pub loop-made-init : goal.loop-made-init
loop-made-init c = record {
  stage = begun c.args.file.now c.args.linter.now.rules c.args.linter.now.settings c.second_answer.ensures c.text.ensures.tree (string_bytes c.in_ok-made.made) c.in_ok-left.left.items
      (c.in_ok-made.ensures.ok ∙ c.text.ensures.value) c.in_ok-left.ensures.ok;
  rules = c.lint.ensures.rules;
  settings = c.lint.ensures.settings;
}

pub next_round-requires-clause-tried : goal.next_round-requires-clause-tried
next_round-requires-clause-tried c =
    let text = sym c.as_str.ensures.value in
    let utf8 = subst IsUtf8 c.as_str.ensures.value c.as_str.utf8 in
    let all = tried c.args.file.now c.args.linter.now.rules c.args.linter.now.settings c.fitting_fixes_step.ensures.tried
    (string_bytes c.loop-made.made) c.loop-made.applied c.loop-made.left.items c.loop-made.invariant.stage utf8 in
    subst (λ (t : Text). All (ListedCanBeTried t) c.as_slice.result.now) text
    (subst (λ (vs : List Violation). All (ListedCanBeTried (string_bytes c.loop-made.made)) vs) (sym c.as_slice.ensures.value) all)

pub next_round-requires-clause-answered : goal.next_round-requires-clause-answered
next_round-requires-clause-answered c = λ known.
    (let here = from_here c.args.file.now c.args.linter.now.rules c.args.linter.now.settings (c.in_ok-plain.ensures known)
    (string_bytes c.loop-made.made) c.loop-made.applied c.loop-made.left.items c.loop-made.invariant.stage in
    subst (λ (t : Text). Answered t c.as_slice.result.now) (sym c.as_str.ensures.value)
    (subst (λ (vs : List Violation). Answered (string_bytes c.loop-made.made) vs) (sym c.as_slice.ensures.value) here))

pub lint_again-requires : goal.lint_again-requires
lint_again-requires c =
    let r = round_is c.args.file.now c.args.linter.now.rules c.args.linter.now.settings (λ x. string_bytes x.text) (λ x. x.applied) c.in_ok-plain.plain
    (string_bytes c.loop-made.made) c.loop-made.left.items c.as_str.result.now c.as_slice.result.now c.as_str.ensures.value c.as_slice.ensures.value _
    c.in_ok-round.field-0 c.in_ok-round.ensures c.in-Some.round c.in-Some.is in
    let n = rounded c.args.file.now c.args.linter.now.rules c.args.linter.now.settings c.fitting_fixes_step.ensures.steps c.in_ok-plain.plain c.in_ok-plain.ensures
    (string_bytes c.loop-made.made) c.loop-made.applied c.loop-made.left.items c.loop-made.invariant.stage (string_bytes c.in-Some.round.text) c.in-Some.round.applied r in
    subst IsValid (sym c.as_str-in-Some.ensures.value)
    (is_valid c.args.file.now c.args.linter.now.rules c.args.linter.now.settings _ (string_bytes c.in-Some.round.text) n)

pub overflow_add-applied : goal.overflow_add-applied
overflow_add-applied c =
    let r = round_is c.args.file.now c.args.linter.now.rules c.args.linter.now.settings (λ x. string_bytes x.text) (λ x. x.applied) c.in_ok-plain.plain
    (string_bytes c.loop-made.made) c.loop-made.left.items c.as_str.result.now c.as_slice.result.now c.as_str.ensures.value c.as_slice.ensures.value _
    c.in_ok-round.field-0 c.in_ok-round.ensures c.in-Some.round c.in-Some.is in
    let n = rounded c.args.file.now c.args.linter.now.rules c.args.linter.now.settings c.fitting_fixes_step.ensures.steps c.in_ok-plain.plain c.in_ok-plain.ensures
    (string_bytes c.loop-made.made) c.loop-made.applied c.loop-made.left.items c.loop-made.invariant.stage (string_bytes c.in-Some.round.text) c.in-Some.round.applied r in
    let few = n.few in
    let small = c.load_is_small.ensures c.args.file.now c.args.linter.now.rules (cleared c.args.file.now c.args.linter.now.settings) c.text.ensures.tree in
    omega (arith, few, small)

pub loop-made-smaller : goal.loop-made-smaller
loop-made-smaller c =
    let r = round_is c.args.file.now c.args.linter.now.rules c.args.linter.now.settings (λ x. string_bytes x.text) (λ x. x.applied) c.in_ok-plain.plain
    (string_bytes c.loop-made.made) c.loop-made.left.items c.as_str.result.now c.as_slice.result.now c.as_str.ensures.value c.as_slice.ensures.value _
    c.in_ok-round.field-0 c.in_ok-round.ensures c.in-Some.round c.in-Some.is in
    let n = rounded c.args.file.now c.args.linter.now.rules c.args.linter.now.settings c.fitting_fixes_step.ensures.steps c.in_ok-plain.plain c.in_ok-plain.ensures
    (string_bytes c.loop-made.made) c.loop-made.applied c.loop-made.left.items c.loop-made.invariant.stage (string_bytes c.in-Some.round.text) c.in-Some.round.applied r in
    let few = n.few in
    let some = r.some in
    omega (arith, few, some)

pub loop-made-preserved : goal.loop-made-preserved
loop-made-preserved c =
    let r = round_is c.args.file.now c.args.linter.now.rules c.args.linter.now.settings (λ x. string_bytes x.text) (λ x. x.applied) c.in_ok-plain.plain
    (string_bytes c.loop-made.made) c.loop-made.left.items c.as_str.result.now c.as_slice.result.now c.as_str.ensures.value c.as_slice.ensures.value _
    c.in_ok-round.field-0 c.in_ok-round.ensures c.in-Some.round c.in-Some.is in
    let n = rounded c.args.file.now c.args.linter.now.rules c.args.linter.now.settings c.fitting_fixes_step.ensures.steps c.in_ok-plain.plain c.in_ok-plain.ensures
    (string_bytes c.loop-made.made) c.loop-made.applied c.loop-made.left.items c.loop-made.invariant.stage (string_bytes c.in-Some.round.text) c.in-Some.round.applied r in
    let rules = c.loop-made.invariant.rules in
    let settings = c.loop-made.invariant.settings in
    let answer = subst (λ (t : Text). IsAnswer t c.loop-made.linter.rules c.loop-made.linter.settings c.in_ok-left-2.left.items) c.as_str-in-Some.ensures.value c.in_ok-left-2.ensures.ok in
    let by_rules = subst (λ (r : Rules). IsAnswer (string_bytes c.in-Some.round.text) r c.loop-made.linter.settings c.in_ok-left-2.left.items) rules answer in
    let answer_here = subst (λ (x : LinterSettings). IsAnswer (string_bytes c.in-Some.round.text) c.args.linter.now.rules x c.in_ok-left-2.left.items) settings by_rules in
    record {
      stage = staged c.args.file.now c.args.linter.now.rules c.args.linter.now.settings _ (string_bytes c.in-Some.round.text) c.in_ok-left-2.left.items n answer_here;
      rules = ap (λ (x : Linter). x.rules) c.lint_again.ensures.same ∙ rules;
      settings = ap (λ (x : Linter). x.settings) c.lint_again.ensures.same ∙ settings;
    }
