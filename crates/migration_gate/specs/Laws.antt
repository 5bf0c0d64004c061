-- What an accepted list of files means.
use Rattle.std.specs.Prelude.{◌≡◌, All, List}
use Rattle.squawk_linter.specs.sql_token.Token.{Text}
use Rattle.squawk_linter.specs.sql_tree.Statement.{Tree}
use Rattle.squawk_linter.specs.lint_base.declared.settings.LinterSettings.{LinterSettings}
use Rattle.squawk_linter.specs.lint_base.RuleSets.{Rules}
use Rattle.squawk_linter.specs.law_clean.Clean.{HasDefaults, IsYoung}
use Rattle.squawk_linter.specs.law_clean.Validations.{ValidatesApart}
use Rattle.squawk_linter.specs.Reports.{cleared}
use Rattle.migration_gate.specs.declared.verdict.GateWork.{GateWork}
use Rattle.migration_gate.specs.declared.verdict.Verdict.{Verdict}
use Rattle.migration_gate.specs.declared.verdict.Verdict.TheVariants as verdict
use Rattle.migration_gate.specs.Run.{catalogue}
use Rattle.migration_gate.specs.Verdict.{Shown}
use Rattle.migration_gate.specs.Verdicts.{ArePassing, IsVerdict}

-- ---- accepted files

-- No work of any file is old, and no file validates a constraint in the open transaction that added it as not valid.
pub record RunsClean (settings : LinterSettings) (trees : List Tree) : Type 0 where
  pub young : All (λ w. IsYoung w.work) (catalogue settings trees)
  pub apart : All (λ tree. ValidatesApart (cleared tree settings).assume_in_transaction tree) trees

-- Files that pass under the rules of the default set run clean.
abbrev pub AcceptedRunsClean : Type 0
AcceptedRunsClean =
    (rules : Rules) (settings : LinterSettings) (ts : List Text) (trees : List Tree) → HasDefaults rules → ArePassing rules settings ts trees
    → RunsClean settings trees

-- the trees of accepted files, which run clean, and whose works these are
pub record AreClean (rules : Rules) (settings : LinterSettings) (ts : List Text) (works : List GateWork) : Type 0 where
  pub trees : List Tree
  pub passing : ArePassing rules settings ts trees
  pub listed : works ≡ catalogue settings trees
  pub clean : RunsClean settings trees

-- accepted files run clean
abbrev pub AcceptsClean : Rules → LinterSettings → List Text → Verdict → Type 0
AcceptsClean rules settings ts (verdict.Accepted works) = AreClean rules settings ts works.items
AcceptsClean rules settings ts (verdict.Rejected file w) = Unit {0}

-- ---- verdicts

-- A list of texts has at most one verdict.
abbrev pub OneVerdict : Type 0
OneVerdict =
    (rules : Rules) (settings : LinterSettings) (ts : List Text) (a b : Shown) → IsVerdict rules settings ts a → IsVerdict rules settings ts b → a ≡ b
