-- What comes of files that were read.
use Rattle.std.specs.Prelude.{◌≡◌, ℕ, Bool, true, false, All, List, Ok, Err, slice_index_or, []}
use Rattle.refused_word.specs.lint_base.declared.settings.LinterSettings.{LinterSettings}
use Rattle.refused_word.specs.lint_base.RuleSets.{Rules}
use Rattle.gate_report.specs.sql_token.Token.{Text}
use Rattle.gate_report.specs.sql_tree.Statement.{Tree}
use Rattle.gate_report.specs.squawk_linter.declared.linter.Linter.{Linter}
use Rattle.gate_report.specs.migration_gate.declared.verdict.GateWork.{GateWork}
use Rattle.gate_report.specs.migration_gate.Run.{EndsOutside, session}
use Rattle.gate_report.specs.declared.cause.Cause.TheVariants.{Unread, Against, Open}
use Rattle.gate_report.specs.Accepted.{printed_accepted}
use Rattle.gate_report.specs.Report.{printed_refused}
use Rattle.gate_report.specs.migration_gate.Laws.{AreClean, RunsClean}
use Rattle.gate_report.specs.migration_gate.Verdicts.{ArePassing, IsVerdict}
use Rattle.gate_command.specs.declared.outcome.Outcome.{Outcome}
use Rattle.gate_command.specs.declared.outcome.Outcome.TheVariants.{Accepted, Refused}
use Rattle.gate_command.specs.Open.{AllEndOutside, IsFirstOpen}

-- The files pass, none ends inside a transaction, and these are the works of the one session that runs them all.
pub record AreCleanInOne (rules : Rules) (settings : LinterSettings) (ts : List Text) (works : List GateWork) : Type 0 where
  pub trees : List Tree
  pub passing : ArePassing rules settings ts trees
  pub clean : RunsClean settings trees
  pub outside : All EndsOutside trees
  pub listed : works ≡ session settings trees

-- accepted files run clean, by whether one session runs them all
abbrev pub AreAccepted : Bool → Linter → List Text → List GateWork → Type 0
AreAccepted false linter ts works = AreClean linter.rules linter.settings ts works
AreAccepted true linter ts works = AreClean linter.rules linter.settings ts works × AreCleanInOne linter.rules linter.settings ts works

-- all files pass but one of them ends inside a transaction
pub record IsLeftOpen (one_session : Bool) (linter : Linter) (ts : List Text) (file : ℕ) : Type 0 where
  pub asked : one_session ≡ true
  pub works : List GateWork
  pub pass : IsVerdict linter.rules linter.settings ts (Ok works)
  pub first : IsFirstOpen ts file

-- this comes of the files
abbrev pub IsOutcome : Bool → Linter → List Text → Outcome → Type 0
IsOutcome one_session linter ts (Accepted works) = IsVerdict linter.rules linter.settings ts (Ok works.items) × AreAccepted one_session linter ts works.items
IsOutcome one_session linter ts (Refused file (Against why)) = IsVerdict linter.rules linter.settings ts (Err (file, why))
IsOutcome one_session linter ts (Refused file Open) = IsLeftOpen one_session linter ts file
IsOutcome one_session linter ts (Refused file (Unread refusal)) = ⊥

-- this comes of files that pass and have these works
abbrev pub IsPassed : Bool → List Text → List GateWork → Outcome → Type 0
IsPassed one_session ts works (Accepted all) = (all.items ≡ works) × (one_session ≡ true → AllEndOutside ts)
IsPassed one_session ts works (Refused file Open) = (one_session ≡ true) × IsFirstOpen ts file
IsPassed one_session ts works (Refused file (Against why)) = ⊥
IsPassed one_session ts works (Refused file (Unread refusal)) = ⊥

-- what is written of the files
abbrev pub printed_outcome : Bool → List Text → List Text → Outcome → List ℕ
printed_outcome lists names ts (Accepted works) = printed_accepted lists names works.items
printed_outcome lists names ts (Refused file cause) = printed_refused (record { name = slice_index_or names file []; text = slice_index_or ts file [] }) cause
