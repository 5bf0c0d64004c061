use Rattle.std.proofs.Common.{◌∙◌, List, ap, subst, sym}
use Rattle.std.proofs.lemmas.Result.{IfOk-weaker}
use Rattle.std.specs.Prelude.{All}
use Rattle.std.specs.Str.{IsCharBoundary}
use Rattle.other_fix.specs.lint_base.declared.settings.LinterSettings.{LinterSettings}
use Rattle.other_fix.specs.lint_base.declared.violation.Violation.{Violation}
use Rattle.law_next_fix.specs.fix_choice.Fits.{ListedCanBeTried}
use Rattle.fix_text.proofs.Beside.{others_placed}
use Rattle.fix_text.specs.Others.{others_of}
use Rattle.other_fix.specs.declared.other.OtherFix.{OtherFix}
use Rattle.law_next_fix.specs.squawk_linter.Placed.{IsPlaced}
use Rattle.fix_text.proofs.others.others_in.Goals as goal

pub others_of-requires-clause-tried : goal.others_of-requires-clause-tried
others_of-requires-clause-tried c =
    let file = c.args.file.now in
    let all = c.fitting_fixes_step.ensures.tried file c.args.linter.now.rules c.args.linter.now.settings c.is_read.ensures in
    subst (λ (vs : List Violation). All (ListedCanBeTried file.text) vs) (sym (c.as_slice.ensures.value ∙ c.in_ok-reports.ensures.ok)) all

pub returns-clause-others : goal.returns-clause-others
returns-clause-others c =
    let file = c.args.file.now in
    let wide = c.args.wide in
    let old = c.args.linter.now.settings in
    let kept = ap (λ (s : LinterSettings). record s { assume_in_transaction = old.assume_in_transaction }) c.in_ok-reports.ensures.settings in
    IfOk-weaker c.others_of.result _ _
    (λ others h. h ∙ ap (λ (s : LinterSettings). others_of wide s file c.as_slice.result.now) kept ∙ ap (λ (vs : List Violation). others_of wide old file vs) (c.as_slice.ensures.value ∙ c.in_ok-reports.ensures.ok))
    c.others_of.ensures

pub returns-clause-placed : goal.returns-clause-placed
returns-clause-placed c =
    let text = c.args.file.now.text in
    let placed = subst (λ (vs : List Violation). All (IsPlaced text) vs) (sym c.as_slice.ensures.value) c.in_ok-reports.ensures.places in
    IfOk-weaker c.others_of.result _ _
    (λ others h. subst (λ (os : List OtherFix). All (λ other. IsCharBoundary text other.at) os) (sym h) (others_placed c.args.wide _ c.args.file.now text c.as_slice.result.now placed))
    c.others_of.ensures
