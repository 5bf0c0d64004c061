-- Why there is no answer or no further turn.
use Rattle.std.proofs.Common.{◌≡◌, ℕ, List, None, OnOk, Option, Result, Ok, Err, Some, Vec, refl, subst}
use Rattle.std.specs.declared.alloc.Global.{Global}
use Rattle.std.specs.Io.KnownBytes.{IsAtEnd}
use Rattle.std.proofs.KnownBytes.{Keeps-refl}
use Rattle.lsp_serve.specs.Reading.{NextIs, StopFits, TakesMessage, coming}
use Rattle.lsp_serve.specs.declared.reader.FrameError.{FrameError}
use Rattle.lsp_serve.specs.declared.reader.FrameError.TheVariants as frame
use Rattle.lsp_read.specs.lsp_session.declared.message.Message.{Message}
use Rattle.lsp_read.specs.lsp_session.declared.reply.Reply.{Reply}
use Rattle.lsp_read.specs.Message.{message_of}
use Rattle.lsp_read.specs.lsp_session.declared.report.Report.{Report}
use Rattle.lsp_serve.specs.declared.end.End.{End}
use Rattle.lsp_serve.specs.declared.end.End.TheVariants.{Exited, EndOfInput, BadFrame, CutOff, ReadFault, WriteFault, NoMemory}
use Rattle.lsp_serve.specs.Ends.{end_of}
use Rattle.lsp_serve.specs.Said.{said_bytes}
use Rattle.lsp_serve.specs.Served.{BeginsWith, Streams}
use Rattle.lsp_serve.specs.Turns.{Handles, Responds, StopsResponding, StopsSaying, StopsTurn, TakesTurn}
use Rattle.lsp_read.specs.lsp_session.declared.session.Session.{Session}
use Rattle.lsp_read.specs.lsp_session.declared.stage.Stage.{Stage}

pub on_ok : {T E : Type 0} (r : Result T E) (P Q : Type 0) → (P → Q) → OnOk r P → OnOk r Q
on_ok (Ok x) P Q f h = f h
on_ok (Err e) P Q f h = tt

module _ {C : Type 0} (Shows : C → List ℕ → List Report → Type 0) (TakenAs : Stage → Message → Message → C → C → Type 0) (old new : Session C) where
  -- a message was received, and what was said to it was not written
  pub not_said : (m : Message) (said : Option Reply) (held held_now : Option (List ℕ)) (before now : ℕ) (end : End) → Handles Shows TakenAs old new m said
      → StopsSaying end (said_bytes said) held held_now before now → StopsResponding end Shows TakenAs old new m held held_now before now
  not_said m said held held_now before now (Exited in_order) h s = absurd s
  not_said m said held held_now before now EndOfInput h s = absurd s
  not_said m said held held_now before now (BadFrame fault) h s = absurd s
  not_said m said held held_now before now CutOff h s = absurd s
  not_said m said held held_now before now ReadFault h s = absurd s
  not_said m said held held_now before now WriteFault h s = record { said = said; handles = h; part = s.0; cause = s.1 }
  not_said m said held held_now before now NoMemory h s = s

  -- a message was read and not answered
  pub not_answered : (m : Message) (from to : Option (List ℕ)) (before now : Streams) (end : End) → BeginsWith m from to
      → StopsResponding end Shows TakenAs old new m before.held now.held before.write_faults now.write_faults → StopsTurn end Shows TakenAs old new from to before now
  not_answered m from to before now (Exited in_order) b s = absurd s
  not_answered m from to before now EndOfInput b s = absurd s
  not_answered m from to before now (BadFrame fault) b s = absurd s
  not_answered m from to before now CutOff b s = absurd s
  not_answered m from to before now ReadFault b s = absurd s
  not_answered m from to before now WriteFault b s = record { message = m; read = b; responds = s }
  not_answered m from to before now NoMemory b s = s

  -- no message was read
  pub not_read : (from : Option (List ℕ)) (unread : List ℕ) (left : Option (List ℕ)) (before now : Streams) (error : FrameError) → now.held ≡ before.held
      → StopFits error from unread left before.read_faults now.read_faults → StopsTurn (end_of error) Shows TakenAs old new from (coming unread left) before now
  not_read from unread left before now (frame.Fault fault) same s =
      (record { seen = unread; left = left; kept = s.0; refused = s.1 }, rw same (Keeps-refl before.held))
  not_read from unread left before now frame.CutOff same s = (record { seen = unread; left = left; cut_off = s }, rw same (Keeps-refl before.held))
  not_read from unread left before now frame.ReadFault same s = (s, rw same (Keeps-refl before.held))
  not_read from unread left before now frame.NoMemory same s = rw same (Keeps-refl before.held)

-- the message of a content that was read
pub begins : (found : Option (Vec ℕ Global)) (content : Vec ℕ Global) (from : Option (List ℕ)) (unread : List ℕ) (left : Option (List ℕ)) → found ≡ Some content → NextIs found from unread left
    → BeginsWith (message_of content.items) from (coming unread left)
begins found content from unread left is h =
    let takes : TakesMessage content.items from unread left = subst (λ (m : Option (Vec ℕ Global)). NextIs m from unread left) is h in
    record { content = content.items; unread = unread; left = left; takes = takes; behind = refl; is = refl }

-- the end of the input
pub ended : (found : Option (Vec ℕ Global)) (from : Option (List ℕ)) (unread : List ℕ) (left : Option (List ℕ)) → found ≡ None → NextIs found from unread left → IsAtEnd from
ended found from unread left is h = subst (λ (m : Option (Vec ℕ Global)). NextIs m from unread left) is h

pub turned : {C : Type 0} (Shows : C → List ℕ → List Report → Type 0) (TakenAs : Stage → Message → Message → C → C → Type 0) (old new : Session C) (bytes text : List ℕ) (from to : Option (List ℕ)) (before now : Streams) → text ≡ bytes
    → BeginsWith (message_of bytes) from to → Responds Shows TakenAs old new (message_of text) before.held now.held → TakesTurn Shows TakenAs old new from to before now
turned Shows TakenAs old new bytes text from to before now same b r = record {
  message = message_of bytes;
  read = b;
  responds = subst (λ (t : List ℕ). Responds Shows TakenAs old new (message_of t) before.held now.held) same r;
}

pub not_turned : {C : Type 0} (Shows : C → List ℕ → List Report → Type 0) (TakenAs : Stage → Message → Message → C → C → Type 0) (old new : Session C) (bytes text : List ℕ) (from to : Option (List ℕ)) (before now : Streams) (end : End) → text ≡ bytes
    → BeginsWith (message_of bytes) from to → StopsResponding end Shows TakenAs old new (message_of text) before.held now.held before.write_faults now.write_faults → StopsTurn end Shows TakenAs old new from to before now
not_turned Shows TakenAs old new bytes text from to before now end same b s =
    not_answered Shows TakenAs old new (message_of bytes) from to before now end b
    (subst (λ (t : List ℕ). StopsResponding end Shows TakenAs old new (message_of t) before.held now.held before.write_faults now.write_faults) same s)
