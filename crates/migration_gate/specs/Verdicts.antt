-- What a gate answers for a list of files.
use Rattle.std.specs.Prelude.{◌≡◌, ℕ, List, [], ◌∷◌, drop, take, Ok, Err}
use Rattle.squawk_linter.specs.sql_token.Token.{Text}
use Rattle.squawk_linter.specs.sql_tree.Statement.{Tree}
use Rattle.squawk_linter.specs.lint_base.declared.settings.LinterSettings.{LinterSettings}
use Rattle.squawk_linter.specs.lint_base.RuleSets.{Rules}
use Rattle.migration_gate.specs.declared.verdict.GateWork.{GateWork}
use Rattle.migration_gate.specs.declared.verdict.Why.{Why}
use Rattle.migration_gate.specs.Passing.{IsPassing, IsWhy}
use Rattle.migration_gate.specs.Run.{catalogue}
use Rattle.migration_gate.specs.Verdict.{Shown}

-- these texts pass, and these are their trees
abbrev pub ArePassing : Rules → LinterSettings → List Text → List Tree → Type 0
ArePassing rules settings [] [] = Unit {0}
ArePassing rules settings [] (tree ∷ trees) = ⊥
ArePassing rules settings (text ∷ ts) [] = ⊥
ArePassing rules settings (text ∷ ts) (tree ∷ trees) = IsPassing rules settings text tree × ArePassing rules settings ts trees

-- Every file passes, and these are the works of the machine that goes from file to file.
pub record IsAccepted (rules : Rules) (settings : LinterSettings) (ts : List Text) (works : List GateWork) : Type 0 where
  pub trees : List Tree
  pub passing : ArePassing rules settings ts trees
  pub listed : works ≡ catalogue settings trees

-- The files before this one pass, and this is why it does not.
pub record IsRejected (rules : Rules) (settings : LinterSettings) (ts : List Text) (file : ℕ) (w : Why) : Type 0 where
  pub trees : List Tree
  pub text : Text
  pub others : List Text
  pub passing : ArePassing rules settings (take file ts) trees
  pub here : drop file ts ≡ text ∷ others
  pub told : IsWhy rules settings text w

-- This is the verdict on a list of texts.
abbrev pub IsVerdict : Rules → LinterSettings → List Text → Shown → Type 0
IsVerdict rules settings ts (Ok works) = IsAccepted rules settings ts works
IsVerdict rules settings ts (Err refusal) = IsRejected rules settings ts refusal.0 refusal.1
