-- What each status says of the input and of what was written.
use Rattle.std.specs.Prelude.{◌≡◌, ℕ, ◌^◌, ◌<◌, List, length, map, Option, Some, Ok, Err, ⊤}
use Rattle.std.specs.Str.{IsUtf8}
use Rattle.std.specs.Io.KnownBytes.{Appends}
use Rattle.squawk_run.specs.devices.Parts.{AppendsPart}
use Rattle.squawk_linter.specs.sql_token.Token.{Text}
use Rattle.squawk_linter.specs.declared.linter.Linter.{Linter}
use Rattle.migration_gate.specs.Bundle.{Entry, IsBadAt, IsBundle}
use Rattle.migration_gate.specs.declared.verdict.GateWork.{GateWork}
use Rattle.migration_gate.specs.declared.verdict.Why.{Why}
use Rattle.migration_gate.specs.Verdict.{Shown}
use Rattle.migration_gate.specs.Laws.{AreClean}
use Rattle.migration_gate.specs.Verdicts.{IsVerdict}
use Rattle.migration_gate.specs.PrintedVerdict.{name_at, printed_accepted, printed_rejected, printed_verdict}
use Rattle.migration_gate.specs.Config.{linter_of}
use Rattle.migration_gate.specs.declared.status.GateStatus.{GateStatus}
use Rattle.migration_gate.specs.declared.status.GateStatus.TheVariants.{Accepted, Rejected, NotUtf8, BadBundle, WriteFault, NoMemory}

-- ---- verdicts

abbrev pub status_of : Shown → GateStatus
status_of (Ok works) = Accepted
status_of (Err refusal) = Rejected

-- what was written of a verdict with these printed bytes
abbrev pub WroteAs : GateStatus → Shown → List ℕ → Option (List ℕ) → Option (List ℕ) → Type 0
WroteAs Accepted shown bytes old new = (status_of shown ≡ Accepted) × Appends old new bytes
WroteAs Rejected shown bytes old new = (status_of shown ≡ Rejected) × Appends old new bytes
WroteAs WriteFault shown bytes old new = AppendsPart old new bytes
WroteAs NoMemory shown bytes old new = ⊤
WroteAs _ shown bytes old new = ⊥

-- The texts are accepted, they run clean, and the printed verdict was appended.
pub record PrintsAccepted (linter : Linter) (texts : List Text) (names : List (List ℕ)) (old new : Option (List ℕ)) : Type 0 where
  pub works : List GateWork
  pub verdict : IsVerdict linter.rules linter.settings texts (Ok works)
  pub clean : AreClean linter.rules linter.settings texts works
  pub appended : Appends old new (printed_accepted names works)

-- The texts are rejected for this file, and the printed verdict was appended.
pub record PrintsRejected (linter : Linter) (texts : List Text) (names : List (List ℕ)) (old new : Option (List ℕ)) : Type 0 where
  pub file : ℕ
  pub why : Why
  pub verdict : IsVerdict linter.rules linter.settings texts (Err (file, why))
  pub appended : Appends old new (printed_rejected (name_at names file) why)

-- The beginning of the printed verdict was appended.
pub record PrintsPart (linter : Linter) (texts : List Text) (names : List (List ℕ)) (old new : Option (List ℕ)) : Type 0 where
  pub shown : Shown
  pub verdict : IsVerdict linter.rules linter.settings texts shown
  pub appended : AppendsPart old new (printed_verdict names shown)

-- what is known of judged files
abbrev pub ShownAs : GateStatus → Linter → List Text → List (List ℕ) → Option (List ℕ) → Option (List ℕ) → Type 0
ShownAs Accepted linter texts names old new = PrintsAccepted linter texts names old new
ShownAs Rejected linter texts names old new = PrintsRejected linter texts names old new
ShownAs WriteFault linter texts names old new = PrintsPart linter texts names old new
ShownAs NoMemory linter texts names old new = ⊤
ShownAs _ linter texts names old new = ⊥

-- ---- inputs

abbrev pub HasBundle : List ℕ → Type 0
HasBundle t = (entries : List Entry) × IsBundle t entries

-- the input is a bundle, of whose texts and names this holds
pub record IsBundleWith (t : List ℕ) (P : List Text → List (List ℕ) → Type 0) : Type 0 where
  pub entries : List Entry
  pub bundle : IsBundle t entries
  pub holds : P (map (λ e. e.text) entries) (map (λ e. e.name) entries)

-- what is known of a judged input
abbrev pub JudgedAs : GateStatus → Linter → List ℕ → Option (List ℕ) → Option (List ℕ) → Type 0
JudgedAs Accepted linter t old new = IsUtf8 t × IsBundleWith t (λ texts names. PrintsAccepted linter texts names old new)
JudgedAs Rejected linter t old new = IsUtf8 t × IsBundleWith t (λ texts names. PrintsRejected linter texts names old new)
JudgedAs WriteFault linter t old new = IsUtf8 t × IsBundleWith t (λ texts names. PrintsPart linter texts names old new)
JudgedAs NotUtf8 linter t old new = ¬ (IsUtf8 t)
JudgedAs (BadBundle at) linter t old new = IsUtf8 t × IsBadAt t at
JudgedAs NoMemory linter t old new = ⊤
JudgedAs _ linter t old new = ⊥

-- the words name a linter, of which this holds
pub record NamesLinter (words : List (List ℕ)) (P : Linter → Type 0) : Type 0 where
  pub linter : Linter
  pub named : linter_of words ≡ Some linter
  pub holds : P linter

-- what the input is and what was written of it
abbrev pub JudgedFor : GateStatus → List (List ℕ) → List ℕ → Option (List ℕ) → Option (List ℕ) → Type 0
JudgedFor Accepted words t old new = NamesLinter words (λ linter. JudgedAs Accepted linter t old new)
JudgedFor Rejected words t old new = NamesLinter words (λ linter. JudgedAs Rejected linter t old new)
JudgedFor WriteFault words t old new = NamesLinter words (λ linter. JudgedAs WriteFault linter t old new)
JudgedFor NotUtf8 words t old new = (length t < 2 ^ 32) × (¬ (IsUtf8 t))
JudgedFor (BadBundle at) words t old new = (length t < 2 ^ 32) × IsUtf8 t × IsBadAt t at
JudgedFor _ words t old new = ⊤
