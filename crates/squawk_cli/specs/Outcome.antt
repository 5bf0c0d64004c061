-- What each status says of a run.
use Rattle.std.specs.Prelude.{◌≡◌, ◌≢◌, ℕ, ◌^◌, ◌<◌, List, [], length, Some, None, ⊤}
use Rattle.std.specs.declared.option.Option.{Option}
use Rattle.std.specs.Str.{IsUtf8}
use Rattle.std.specs.Io.KnownBytes.{Appends}
use Rattle.squawk_run.specs.devices.Parts.{AppendsPart}
use Rattle.squawk_linter.specs.sql_token.Token.{OpenAt}
use Rattle.squawk_linter.specs.sql_tree.Statement.{IsValid, IsSyntaxAt}
use Rattle.squawk_linter.specs.lint_base.declared.violation.Violation.{Violation}
use Rattle.squawk_run.specs.squawk_words.Choices.{IsAccepted}
use Rattle.squawk_run.specs.Ends as ends
use Rattle.squawk_run.specs.Statuses.{end_of}
use Rattle.squawk_cli.specs.Answer.{AreFindings, AreReports}
use Rattle.squawk_cli.specs.Modes.{groups_to_make, shown}
use Rattle.squawk_cli.specs.Findings.{FindingsValue}
use Rattle.squawk_run.specs.declared.status.Status.{Status}
use Rattle.squawk_run.specs.declared.status.Status.TheVariants.{Clean, Found, BadArguments, NotUtf8, TooLong, Unterminated, Syntax, ReadFault, WriteFault, NoMemory}

-- what the words are
abbrev pub WordsFor : Status → List (List ℕ) → Type 0
WordsFor status words = ends.WordsFor (end_of status) (IsAccepted words)

-- nothing is read for a made text, so no read ends the run
abbrev pub ReadForMade : Status → Option (List ℕ) → Option (List ℕ) → Type 0
ReadForMade TooLong old new = ⊥
ReadForMade ReadFault old new = ⊥
ReadForMade _ old new = new ≡ old

-- what was read where so many made groups are asked for, or else of the input
abbrev pub ReadBy : Option ℕ → Status → Option (List ℕ) → Option (List ℕ) → Type 0
ReadBy (Some n) status old new = ReadForMade status old new
ReadBy None status old new = ends.ReadFor (end_of status) old new

-- what was read
abbrev pub ReadFor : Status → List (List ℕ) → Option (List ℕ) → Option (List ℕ) → Type 0
ReadFor status words old new = ReadBy (groups_to_make words) status old new

-- the text has reports, at least one
abbrev pub HasReports : List (List ℕ) → List ℕ → Type 0
HasReports words t = (violations : List Violation) × AreReports words t violations × (violations ≢ [])

-- what was appended is what is shown of what is found in the text
pub record AppendsFindings (words : List (List ℕ)) (t : List ℕ) (old new : Option (List ℕ)) : Type 0 where
  pub found : FindingsValue
  pub are : AreFindings words t found
  pub appended : Appends old new (shown words found)

-- what was appended is a prefix of it
pub record AppendsPartOfFindings (words : List (List ℕ)) (t : List ℕ) (old new : Option (List ℕ)) : Type 0 where
  pub found : FindingsValue
  pub are : AreFindings words t found
  pub appended : AppendsPart old new (shown words found)

-- what the whole text is
abbrev pub InputFor : Status → List (List ℕ) → List ℕ → Type 0
InputFor Clean words t = IsUtf8 t × AreReports words t []
InputFor Found words t = IsUtf8 t × HasReports words t
InputFor NotUtf8 words t = (¬ (IsUtf8 t)) × (length t < 2 ^ 32)
InputFor (Unterminated at) words t = IsUtf8 t × (length t < 2 ^ 32) × OpenAt t at
InputFor (Syntax at) words t = IsUtf8 t × IsSyntaxAt t at
InputFor WriteFault words t = IsUtf8 t × IsValid t
InputFor _ words t = ⊤

-- what was written of what was found
abbrev pub WrittenFor : Status → List (List ℕ) → List ℕ → Option (List ℕ) → Option (List ℕ) → Type 0
WrittenFor Clean words t old new = AppendsFindings words t old new
WrittenFor Found words t old new = AppendsFindings words t old new
WrittenFor WriteFault words t old new = AppendsPartOfFindings words t old new
WrittenFor _ words t old new = ⊤

-- nothing was written but where the reports were
abbrev pub KeptFor : Status → Option (List ℕ) → Option (List ℕ) → Type 0
KeptFor status old new = ends.KeptFor (end_of status) old new

-- a failed read shows in the count of the source
abbrev pub SourceCause : Status → ℕ → ℕ → Type 0
SourceCause status before now = ends.SourceCause (end_of status) before now

-- a failed write shows in the count of the sink
abbrev pub SinkCause : Status → ℕ → ℕ → Type 0
SinkCause status before now = ends.SinkCause (end_of status) before now

-- the text was linted, or memory ran out
abbrev pub IsDone : Status → Type 0
IsDone status = ends.IsDone (end_of status)

-- a made text is valid, so nothing of it ends a run: only a failed write does, or running out of memory
abbrev pub EndForMade : Status → Type 0
EndForMade Clean = ⊤
EndForMade Found = ⊤
EndForMade WriteFault = ⊤
EndForMade NoMemory = ⊤
EndForMade _ = ⊥

-- why a text has no reports
abbrev pub RefusalFits : Status → List ℕ → Type 0
RefusalFits NotUtf8 t = ¬ (IsUtf8 t)
RefusalFits (Unterminated at) t = IsUtf8 t × (length t < 2 ^ 32) × OpenAt t at
RefusalFits (Syntax at) t = IsUtf8 t × IsSyntaxAt t at
RefusalFits NoMemory t = ⊤
RefusalFits _ t = ⊥
