-- What a run does that words ask for.
use Rattle.std.specs.Prelude.{◌≡◌, ℕ, Bool, true, false, List, Option}
use Rattle.std.specs.Io.KnownBytes.{Appends, Keeps}
use Rattle.config_file.specs.check_config.Config.{empty}
use Rattle.refused_word.specs.devices.Contents.{Content}
use Rattle.lsp_serve.specs.declared.end.End.{End}
use Rattle.lsp_serve.specs.Served.{Served as HasServed, Streams}
use Rattle.lsp_serve.specs.lsp_session.Entry.{IsTakenAs}
use Rattle.server_command.specs.declared.outcome.Outcome.{Outcome}
use Rattle.server_command.specs.declared.outcome.Outcome.TheVariants.{Printed, Served, Refused, Failed}
use Rattle.server_command.specs.declared.workspace.Workspace.{Workspace}
use Rattle.server_command.specs.Workspace.{Enters, IsFirst, Refuses, WorkspaceShows}
use Rattle.server_command.specs.Settled.{IsUnchosen}
use Rattle.refused_word.specs.squawk_run.declared.stop.Stop.TheVariants.{BadArguments, NotUtf8, TooLong, ReadFault, WriteFault, NoMemory}
use Rattle.refused_word.specs.devices.Faults.{Rose}
use Rattle.refused_word.specs.devices.Parts.{AppendsPart}
use Rattle.refused_word.specs.squawk_words.Words.{Text}

-- The files, what is left of the input, and the streams before and after.
pub record Devices (F : Type 0) : Type 0 where
  pub files : F
  pub input : Option (List ℕ)
  pub old : Streams
  pub new : Streams

-- a server whose linter the words of the line choose first, and the configuration of the root where the client begins
pub record HasServedBy {F : Type 0} (content : F → Text → Content) (faults : F → ℕ) (line : List Text) (d : Devices F) (end : End) : Type 0 where
  pub first : Workspace F
  pub is : IsFirst d.files line first
  pub served : HasServed WorkspaceShows (IsTakenAs (Enters content faults) (Refuses content faults)) first d.input d.old d.new end

-- the words ask for the help, which is this text: it was written, or a front part of it before a write failed
abbrev pub HasHelped : List ℕ → Option (List ℕ) → Option (List ℕ) → ℕ → ℕ → Outcome → Type 0
HasHelped help old new before now Printed = Appends old new help
HasHelped help old new before now (Served end) = ⊥
HasHelped help old new before now (Refused line) = ⊥
HasHelped help old new before now (Failed BadArguments) = ⊥
HasHelped help old new before now (Failed NotUtf8) = ⊥
HasHelped help old new before now (Failed TooLong) = ⊥
HasHelped help old new before now (Failed ReadFault) = ⊥
HasHelped help old new before now (Failed WriteFault) = AppendsPart old new help × Rose before now
HasHelped help old new before now (Failed NoMemory) = ⊥

module _ {F : Type 0} (content : F → Text → Content) (faults : F → ℕ) where
  -- they ask for a server: it served, or the words are refused or memory ran out, and nothing was written
  abbrev pub HasRunFor : List Text → Devices F → Outcome → Type 0
  HasRunFor line d Printed = ⊥
  HasRunFor line d (Served end) = HasServedBy content faults line d end
  HasRunFor line d (Refused said) = IsUnchosen empty line said.items × Keeps d.old.held d.new.held
  HasRunFor line d (Failed why) = (why ≡ NoMemory) × Keeps d.old.held d.new.held

  -- what a run did, by whether the words ask for the help
  abbrev pub HasRun : Bool → List ℕ → List Text → Devices F → Outcome → Type 0
  HasRun true help line d outcome = HasHelped help d.old.held d.new.held d.old.write_faults d.new.write_faults outcome
  HasRun false help line d outcome = HasRunFor line d outcome
