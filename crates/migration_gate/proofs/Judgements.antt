-- Why a text that has a tree does not pass.
use Rattle.std.proofs.Common.{◌≡◌, ℕ, Bool, true, false, List, [], ◌∷◌, Option, Some, None}
use Rattle.std.specs.Str.{IsUtf8}
use Rattle.squawk_linter.specs.sql_token.Token.{Text}
use Rattle.squawk_linter.specs.sql_tree.Forms.{either_of}
use Rattle.squawk_linter.specs.sql_tree.Statement.{Tree}
use Rattle.squawk_linter.specs.sql_read.Cause.{IsTreeOf}
use Rattle.squawk_linter.specs.lint_base.declared.settings.LinterSettings.{LinterSettings}
use Rattle.squawk_linter.specs.lint_base.declared.violation.Violation.{Violation}
use Rattle.squawk_linter.specs.lint_base.RuleSets.{Rules}
use Rattle.squawk_linter.specs.lock_machine.Plain.{plain}
use Rattle.squawk_linter.specs.Answers.{reports}
use Rattle.migration_gate.specs.declared.verdict.GateWork.{GateWork}
use Rattle.migration_gate.specs.declared.verdict.Why.{Why}
use Rattle.migration_gate.specs.declared.verdict.Why.TheVariants as why
use Rattle.migration_gate.specs.Judged.{IsJudged, IsToldOf}
use Rattle.migration_gate.specs.Passing.{first_found, first_ignore, ignored, unplain}
use Rattle.migration_gate.proofs.Lists.{passing_of}

not_open : (o : Option ℕ) (b : Bool) (vs : List Violation) (at : ℕ) → either_of (ignored o) (either_of (unplain b) (first_found vs)) ≡ Some (why.Unterminated at) → ⊥
not_open (Some a) b vs at e = cc
not_open None false vs at e = cc
not_open None true [] at e = cc
not_open None true (v ∷ vs) at e = cc

not_fault : (o : Option ℕ) (b : Bool) (vs : List Violation) (at : ℕ) → either_of (ignored o) (either_of (unplain b) (first_found vs)) ≡ Some (why.Syntax at) → ⊥
not_fault (Some a) b vs at e = cc
not_fault None false vs at e = cc
not_fault None true [] at e = cc
not_fault None true (v ∷ vs) at e = cc

pub told_of : (rules : Rules) (settings : LinterSettings) (text : Text) (tree : Tree) (file : ℕ) (old new : List GateWork) (w : Option Why)
    → IsTreeOf text tree → IsUtf8 tree.text → IsJudged rules settings tree file old new w → IsToldOf rules settings text file old new w
told_of rules settings text tree file old new None is utf8 h = record { tree = tree; passing = passing_of rules settings text tree is utf8 h.0; added = h.1 }
told_of rules settings text tree file old new (Some (why.Unterminated at)) is utf8 h = absurd (not_open (first_ignore tree.text tree.toks) (plain tree) (reports tree rules settings) at h)
told_of rules settings text tree file old new (Some (why.Syntax at)) is utf8 h = absurd (not_fault (first_ignore tree.text tree.toks) (plain tree) (reports tree rules settings) at h)
told_of rules settings text tree file old new (Some w) is utf8 h = record { tree = tree; of_text = is; told = h }
