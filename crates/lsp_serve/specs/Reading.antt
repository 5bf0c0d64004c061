-- What a reader of messages gives.
use Rattle.std.specs.Prelude.{◌≡◌, ◌≢◌, ℕ, Bool, true, false, List, [], drop, slice_range, Some, None, Result, Ok, Err, Vec, ⊤}
use Rattle.std.specs.declared.alloc.Global.{Global}
use Rattle.std.specs.declared.option.Option.{Option}
use Rattle.std.specs.Io.KnownBytes.{Consumes, IsAtEnd, prepend_known}
use Rattle.devices.specs.Faults.{Rose}
use Rattle.lsp_serve.specs.declared.front.Front.TheVariants.{Partial, Whole}
use Rattle.lsp_serve.specs.declared.reader.FrameError.{FrameError}
use Rattle.lsp_serve.specs.declared.reader.FrameError.TheVariants as stop
use Rattle.lsp_serve.specs.Frame.{front_of}

-- what is still to come: what was read and is kept, and then what the source has left
abbrev pub coming : List ℕ → Option (List ℕ) → Option (List ℕ)
coming unread left = prepend_known unread left

-- What was to come begins with a whole message of this content. What comes after it is still to come.
pub record TakesMessage (content : List ℕ) (old : Option (List ℕ)) (unread : List ℕ) (left : Option (List ℕ)) : Type 0 where
  pub seen : List ℕ
  pub start : ℕ
  pub end : ℕ
  pub front : Consumes old left seen
  pub whole : front_of seen ≡ Ok (Whole start end)
  pub content_is : content ≡ slice_range seen start end
  pub behind : unread ≡ drop end seen

-- the next message, or none at the end
abbrev pub NextIs : Option (Vec ℕ Global) → Option (List ℕ) → List ℕ → Option (List ℕ) → Type 0
NextIs (Some content) old unread left = TakesMessage content.items old unread left
NextIs None old unread left = IsAtEnd old

-- What was to come begins with unread, which is kept.
abbrev pub Kept : Option (List ℕ) → List ℕ → Option (List ℕ) → Type 0
Kept old unread left = Consumes old left unread

-- What was to come is a part of a message, and not nothing.
pub record IsCutOff (old : Option (List ℕ)) (unread : List ℕ) (left : Option (List ℕ)) : Type 0 where
  pub kept : Kept old unread left
  pub ended : IsAtEnd left
  pub partial : front_of unread ≡ Ok Partial
  pub some : unread ≢ []

-- each error with its cause
abbrev pub StopFits : FrameError → Option (List ℕ) → List ℕ → Option (List ℕ) → ℕ → ℕ → Type 0
StopFits (stop.Fault fault) old unread left before now = Kept old unread left × (front_of unread ≡ Err fault)
StopFits stop.CutOff old unread left before now = IsCutOff old unread left
StopFits stop.ReadFault old unread left before now = Rose before now
StopFits stop.NoMemory old unread left before now = ⊤

-- one read: bytes that came are kept, or the source is at its end
abbrev pub ReadsOn : Bool → List ℕ → Option (List ℕ) → List ℕ → Option (List ℕ) → Type 0
ReadsOn true unread left unread_now left_now = Consumes (coming unread left) left_now unread_now
ReadsOn false unread left unread_now left_now = (unread_now ≡ unread) × IsAtEnd left_now × Consumes left left_now []

-- what the end of the input means
abbrev pub EndFits : Result (Option (Vec ℕ Global)) FrameError → List ℕ → Type 0
EndFits (Ok (Some content)) unread = ⊥
EndFits (Ok None) unread = unread ≡ []
EndFits (Err e) unread = (e ≡ stop.CutOff) × (unread ≢ [])
