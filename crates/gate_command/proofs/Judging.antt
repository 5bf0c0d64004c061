-- From a verdict to what comes of files.
use Rattle.std.proofs.Common.{◌≡◌, ◌∙◌, refl, subst, sym, Bool, true, false, List, [], ◌∷◌, Ok}
use Rattle.std.proofs.lemmas.List.Elements.{All-cons, All-nil}
use Rattle.std.specs.Prelude.{All}
use Rattle.refused_word.specs.lint_base.declared.settings.LinterSettings.{LinterSettings}
use Rattle.refused_word.specs.lint_base.RuleSets.{Rules}
use Rattle.gate_report.specs.sql_token.Token.{Text}
use Rattle.gate_report.specs.sql_tree.Statement.{IsTree, Tree}
use Rattle.gate_report.specs.squawk_linter.declared.linter.Linter.{Linter}
use Rattle.gate_report.specs.migration_gate.declared.verdict.GateWork.{GateWork}
use Rattle.gate_report.specs.migration_gate.MachineLaws.{SessionsAgree}
use Rattle.gate_report.specs.migration_gate.Run.{EndsOutside}
use Rattle.gate_report.specs.migration_gate.Laws.{AreClean}
use Rattle.gate_report.specs.migration_gate.Verdicts.{ArePassing, IsVerdict}
use Rattle.gate_command.specs.Open.{AllEndOutside}
use Rattle.gate_report.specs.declared.cause.Cause.TheVariants.{Unread, Against, Open}
use Rattle.gate_command.specs.declared.outcome.Outcome.{Outcome}
use Rattle.gate_command.specs.declared.outcome.Outcome.TheVariants.{Accepted, Refused}
use Rattle.gate_command.specs.Outcomes.{AreAccepted, AreCleanInOne, IsOutcome, IsPassed}

outside_trees : (rules : Rules) (settings : LinterSettings) (ts : List Text) (trees : List Tree) → ArePassing rules settings ts trees → AllEndOutside ts → All EndsOutside trees
outside_trees rules settings ts [] h o = All-nil EndsOutside
outside_trees rules settings [] (tree ∷ trees) h o = absurd h
outside_trees rules settings (t ∷ ts) (tree ∷ trees) h o =
    All-cons EndsOutside tree trees (o.0 tree (h.0.is, h.0.valid.read)) (outside_trees rules settings ts trees h.1 o.1)

read_trees : (rules : Rules) (settings : LinterSettings) (ts : List Text) (trees : List Tree) → ArePassing rules settings ts trees → All IsTree trees
read_trees rules settings ts [] h = All-nil IsTree
read_trees rules settings [] (tree ∷ trees) h = absurd h
read_trees rules settings (t ∷ ts) (tree ∷ trees) h = All-cons IsTree tree trees h.0.valid.read (read_trees rules settings ts trees h.1)

in_one : SessionsAgree → (linter : Linter) (ts : List Text) (works : List GateWork) → linter.settings.assume_in_transaction ≡ false → AreClean linter.rules linter.settings ts works
    → AllEndOutside ts → AreCleanInOne linter.rules linter.settings ts works
in_one law linter ts works apart h o =
    let outside = outside_trees linter.rules linter.settings ts h.trees h.passing o in
    record {
      trees = h.trees;
      passing = h.passing;
      clean = h.clean;
      outside = outside;
      listed = h.listed ∙ sym (law linter.settings h.trees apart (read_trees linter.rules linter.settings ts h.trees h.passing) outside);
    }

accepted : SessionsAgree → (b : Bool) (linter : Linter) (ts : List Text) (works : List GateWork) → (b ≡ true → linter.settings.assume_in_transaction ≡ false)
    → AreClean linter.rules linter.settings ts works → (b ≡ true → AllEndOutside ts) → AreAccepted b linter ts works
accepted law false linter ts works apart h o = h
accepted law true linter ts works apart h o = (h, in_one law linter ts works (apart refl) h (o refl))

-- files that pass, by what comes of them
pub outcome_of : SessionsAgree → (b : Bool) (linter : Linter) (ts : List Text) (works : List GateWork) (outcome : Outcome) → (b ≡ true → linter.settings.assume_in_transaction ≡ false)
    → IsVerdict linter.rules linter.settings ts (Ok works) → AreClean linter.rules linter.settings ts works → IsPassed b ts works outcome → IsOutcome b linter ts outcome
outcome_of law b linter ts works (Accepted all) apart pass clean h =
    subst (λ (ws : List GateWork). IsVerdict linter.rules linter.settings ts (Ok ws) × AreAccepted b linter ts ws) (sym h.0) (pass, accepted law b linter ts works apart clean h.1)
outcome_of law b linter ts works (Refused file Open) apart pass clean h = record { asked = h.0; works = works; pass = pass; first = h.1 }
outcome_of law b linter ts works (Refused file (Against why)) apart pass clean h = absurd h
outcome_of law b linter ts works (Refused file (Unread refusal)) apart pass clean h = h
