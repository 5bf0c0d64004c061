-- The linter of a workspace, and how it is entered.
use Rattle.std.specs.Prelude.{◌≡◌, ◌≤◌, ℕ, List, Option}
use Rattle.refused_word.specs.devices.Contents.{Content, KeepsContents}
use Rattle.lsp_linter.specs.Shown.{Shows}
use Rattle.lsp_serve.specs.lsp_session.declared.report.Report.{Report}
use Rattle.server_command.specs.declared.outcome.Refusal.{Refusal}
use Rattle.server_command.specs.declared.workspace.Workspace.{Workspace}
use Rattle.server_command.specs.Settled.{IsChosenAlone, IsRefusedFor, IsSaidOf, IsSettled, folder_of}
use Rattle.refused_word.specs.squawk_words.Words.{Text}

-- what it shows of a text
abbrev pub WorkspaceShows : {F : Type 0} → Workspace F → List ℕ → List Report → Type 0
WorkspaceShows workspace text found = Shows workspace.linting.linter.linter.rules workspace.linting.linter.hazards workspace.linting.linter.linter.settings text found

-- It has these files and words, and is settled by the words alone.
pub record IsFirst {F : Type 0} (given : F) (words : List Text) (workspace : Workspace F) : Type 0 where
  pub files : workspace.files ≡ given
  pub line : workspace.line ≡ words
  pub chosen : IsChosenAlone words workspace.linting

-- its words and what its files hold are what they were
pub record KeepsRest {F : Type 0} (content : F → Text → Content) (faults : F → ℕ) (old new : Workspace F) : Type 0 where
  pub line : new.line ≡ old.line
  pub contents : KeepsContents (content old.files) (content new.files)
  pub later : faults old.files ≤ faults new.files

-- It is settled by the configuration of the folder of the root.
pub record Enters {F : Type 0} (content : F → Text → Content) (faults : F → ℕ) (old : Workspace F) (root : Option Text) (new : Workspace F) : Type 0 where
  pub settled : IsSettled (content old.files) (folder_of root) old.line new.linting
  pub kept : KeepsRest content faults old new

-- That configuration, or the words beside it, are refused, and this is said of it. What finds reports stays what it was.
pub record Refuses {F : Type 0} (content : F → Text → Content) (faults : F → ℕ) (old : Workspace F) (root : Option Text) (line : List ℕ) (new : Workspace F) : Type 0 where
  pub refusal : Refusal
  pub why : IsRefusedFor (content old.files) (faults old.files) (faults new.files) (folder_of root) old.line refusal
  pub said : IsSaidOf refusal line
  pub linting : new.linting ≡ old.linting
  pub kept : KeepsRest content faults old new
