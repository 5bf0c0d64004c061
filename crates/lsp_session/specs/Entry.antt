-- How a session takes the message by which it begins.
use Rattle.std.specs.Prelude.{◌≡◌, ℕ, List, Option}
use Rattle.lsp_session.specs.declared.message.Call.{Call}
use Rattle.lsp_session.specs.declared.message.Call.TheVariants.{Initialize, ConfigRefused}
use Rattle.lsp_session.specs.declared.message.Message.{Message}
use Rattle.lsp_session.specs.declared.message.Message.TheVariants.{Request}
use Rattle.lsp_session.specs.declared.stage.Stage.{Stage}
use Rattle.lsp_session.specs.declared.stage.Stage.TheVariants.{Fresh}

module _ {C : Type 0} (Enters : C → Option (List ℕ) → C → Type 0) (Refuses : C → Option (List ℕ) → List ℕ → C → Type 0) where
  -- An `initialize` is taken as it is where the checker was entered at its root, and else as a refusal with the line that says why.
  abbrev pub IsEntryAs : Option (List ℕ) → Call → C → C → Type 0
  IsEntryAs root (Initialize named) old new = (named ≡ root) × Enters old root new
  IsEntryAs root (ConfigRefused line) old new = Refuses old root line new
  IsEntryAs root other old new = ⊥

  -- Everything else is taken as it is, and the checker stays the same.
  abbrev pub BeginsAs : Call → Call → C → C → Type 0
  BeginsAs (Initialize root) taken old new = IsEntryAs root taken old new
  BeginsAs call taken old new = (taken ≡ call) × (new ≡ old)

  -- and so is all that comes after the session has begun
  abbrev pub IsCallAs : Stage → Call → Call → C → C → Type 0
  IsCallAs Fresh call taken old new = BeginsAs call taken old new
  IsCallAs stage call taken old new = (taken ≡ call) × (new ≡ old)

  -- What a session takes a message for, by its stage, and what its checker is before and after.
  abbrev pub IsTakenAs : Stage → Message → Message → C → C → Type 0
  IsTakenAs stage (Request id call) (Request name taken) old new = (name ≡ id) × IsCallAs stage call taken old new
  IsTakenAs stage (Request id call) other old new = ⊥
  IsTakenAs stage message taken old new = (taken ≡ message) × (new ≡ old)
