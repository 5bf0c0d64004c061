-- What the laws of passes say of the linter's own ones.
use Rattle.std.proofs.Common.{◌≡◌, ℕ, zero, suc, ◌<◌, List, [], ◌∷◌, length, refl, sym, subst, arith, Option, Some, None, IfSome}
use Rattle.std.proofs.lemmas.List.Elements.{All-head, All-tail, All-weaker}
use Rattle.std.specs.Prelude.{All}
use Rattle.std.specs.Str.{IsUtf8}
use Rattle.sql_read.specs.sql_token.Token.{Text}
use Rattle.sql_read.specs.sql_tree.Statement.{Tree, IsTree}
use Rattle.fix_edit.specs.lint_base.declared.edit.Edit.{Edit}
use Rattle.fix_edit.specs.lint_base.declared.settings.LinterSettings.{LinterSettings}
use Rattle.fix_edit.specs.lint_base.declared.violation.Violation.{Violation}
use Rattle.fix_edit.specs.lint_base.Fixes.{FixValue}
use Rattle.fix_edit.specs.lint_base.RuleSets.{Rules, with_rule}
use Rattle.fix_edit.specs.lint_ignore.Found.{found_in}
use Rattle.fix_edit.specs.lint_ignore.Places.{IsPlace}
use Rattle.fix_edit.specs.lint_pass.Laws.{AreApart, AreEdits, IsPlacedIn}
use Rattle.fix_edit.specs.lint_pass.PairLaws.{pair_apart}
use Rattle.fix_edit.specs.lint_pass.Ranges.{LiesIn}
use Rattle.law_answers.specs.pass_groups.OwnTable.{own_table}
use Rattle.fix_edit.specs.Faults.{AreGood, IsGoodAt}
use Rattle.squawk_linter.specs.Answers.{reports}
use Rattle.squawk_linter.specs.Placed.{AnsweredFixesAreGood, AnswersPlaced, IsPlaced, IsPlacedPass}
use Rattle.squawk_linter.specs.Laws.{RulesApart, RulesApartIn}
use Rattle.squawk_linter.specs.Reports.{cleared}
use Rattle.squawk_linter.proofs.Gathering.{answer_placed}

-- a report at a place lies in the text
pub all_lie : (tree : Tree) (vs : List Violation) → All (IsPlacedIn tree) vs → All (LiesIn tree) vs
all_lie tree vs h = All-weaker (IsPlacedIn tree) (LiesIn tree) (λ v at. record { ordered = at.range.ordered; within = at.range.end.0 }) vs h

-- the reports of the linter's answer, and the edits of their fixes, are at places of the text
pub reports_placed : (tree : Tree) (rules : Rules) (settings : LinterSettings) (v : List Violation) → IsTree tree → IsUtf8 tree.text → All (IsPlacedIn tree) (own_table tree rules (cleared tree settings))
    → v ≡ reports tree rules settings → All (IsPlaced tree.text) v
reports_placed tree rules settings v is utf8 placed same =
    let own : List Violation = own_table tree rules (cleared tree settings) in
    subst (λ vs. All (IsPlaced tree.text) vs) (sym same)
    (answer_placed tree own rules is utf8 (All-weaker (IsPlacedIn tree) (IsPlaced tree.text) (λ r at. record { range = at.range; edits = at.edits }) own placed))

pub answers_placed : IsPlacedPass own_table → AnswersPlaced
answers_placed placed tree rules settings read = reports_placed tree rules settings (reports tree rules settings) read.read read.utf8 (placed tree rules (cleared tree settings) read) refl

-- ---- no edit of a placed report is bad

edit_good : (text : Text) (edits : List Edit) (n : ℕ) → All (λ e. IsPlace text e.text_range) edits → AreApart edits → n < length edits → IsGoodAt text edits n
edit_good text [] n places apart low = absurd (omega arith)
edit_good text (e ∷ es) zero places apart low =
    let place = All-head (λ (x : Edit). IsPlace text x.text_range) e es places in
    record { edit = e; is = refl; in_text = (place.start, place.end); apart = omega arith }
edit_good text (e ∷ []) (suc n) places apart low = absurd (omega arith)
edit_good text (e ∷ f ∷ es) (suc zero) places apart low =
    let place = All-head (λ (x : Edit). IsPlace text x.text_range) f es (All-tail (λ (x : Edit). IsPlace text x.text_range) e (f ∷ es) places) in
    record { edit = f; is = refl; in_text = (place.start, place.end); apart = apart.0 }
edit_good text (e ∷ f ∷ es) (suc (suc n)) places apart low =
    let rest = edit_good text (f ∷ es) (suc n) (All-tail (λ (x : Edit). IsPlace text x.text_range) e (f ∷ es) places) apart.1 (omega arith) in
    record { edit = rest.edit; is = rest.is; in_text = rest.in_text; apart = rest.apart }

fix_good : (text : Text) (o : Option FixValue) → IfSome o (λ f. AreEdits text f.edits) → IfSome o (λ f. AreGood text f.edits)
fix_good text None h = tt
fix_good text (Some f) h = λ n low. edit_good text f.edits n h.places h.apart low

pub answered_good : AnswersPlaced → AnsweredFixesAreGood
answered_good placed tree rules settings read =
    All-weaker (IsPlaced tree.text) (λ v. IfSome v.fix (λ f. AreGood tree.text f.edits)) (λ v at. fix_good tree.text v.fix at.edits) (reports tree rules settings) (placed tree rules settings read)

-- the names in ignore comments that name no rule are the same under all rules
pub rules_apart : RulesApartIn own_table → RulesApart
rules_apart apart tree rules settings r q differ =
    pair_apart q (own_table tree (with_rule rules r) settings) (own_table tree rules settings) (found_in tree).reports (found_in tree).reports (apart tree rules settings r q differ) refl
