use Rattle.std.proofs.Common.{◌∙◌, List, ap, subst, sym}
use Rattle.std.specs.Prelude.{All}
use Rattle.std.specs.Str.{IsUtf8}
use Rattle.other_fix.specs.lint_base.declared.settings.LinterSettings.{LinterSettings}
use Rattle.other_fix.specs.lint_base.declared.violation.Violation.{Violation}
use Rattle.law_next_fix.specs.fix_choice.Fits.{ListedCanBeTried, next_text}
use Rattle.fix_text.specs.Allowed.{allowed}
use Rattle.fix_text.proofs.look.look_at.Goals as goal

pub next_allowed-requires-clause-tried : goal.next_allowed-requires-clause-tried
next_allowed-requires-clause-tried c =
    let file = c.in-Ok.file in
    let of_text = c.in-Ok.ensures.ok in
    let all = c.fitting_fixes_step.ensures.tried file c.args.linter.now.rules c.args.linter.now.settings (record { read = of_text.1; utf8 = subst IsUtf8 (sym of_text.0) c.utf8.text }) in
    subst (λ (vs : List Violation). All (ListedCanBeTried file.text) vs) (sym (c.as_slice.ensures.value ∙ c.in_ok-left.ensures.ok)) all

pub returns-clause-found : goal.returns-clause-found
returns-clause-found c =
    let file = c.in-Ok.file in
    let of_text = c.in-Ok.ensures.ok in
    let old = c.args.linter.now.settings in
    let kept = ap (λ (s : LinterSettings). record s { assume_in_transaction = old.assume_in_transaction }) c.in_ok-left.ensures.settings in
    record {
      tree = file;
      of_text = of_text;
      left_is = c.in_ok-left.ensures.ok;
      next_is = c.in_ok-next.ensures ∙ (λ i. next_text (of_text.0 i) (allowed c.args.wide (kept i) file (c.as_slice.ensures.value i)));
    }
