-- One turn of a server, and what is known between two turns.
use Rattle.std.specs.Prelude.{◌≡◌, ◌⊎◌, ◌≤◌, ℕ, List, Option, None}
use Rattle.std.specs.Io.KnownBytes.{Appends, IsAtEnd, Keeps}
use Rattle.lsp_read.specs.lsp_session.declared.message.Message.{Message}
use Rattle.lsp_read.specs.lsp_session.declared.reply.Reply.{Reply}
use Rattle.lsp_read.specs.lsp_session.declared.report.Report.{Report}
use Rattle.lsp_serve.specs.Said.{AreSaidTo, AreTaken, IsOpenBefore, all_bytes, said_bytes}
use Rattle.lsp_serve.specs.Served.{AreRead, BeginsWith, IsNoFrame, IsPartOfFrame, Streams}
use Rattle.lsp_serve.specs.declared.end.End.{End}
use Rattle.lsp_serve.specs.declared.end.End.TheVariants.{Exited, EndOfInput, BadFrame, CutOff, ReadFault, WriteFault, NoMemory}
use Rattle.lsp_read.specs.lsp_session.Conversation.{document_behind, last_published, stage_behind}
use Rattle.lsp_read.specs.lsp_session.Session.{PublishesNow, Says, answered, asked, document_after, document_of, published}
use Rattle.lsp_read.specs.lsp_session.Stages.{stage_after}
use Rattle.lsp_read.specs.lsp_session.declared.session.Session.{Session}
use Rattle.lsp_read.specs.lsp_session.declared.stage.Stage.{Stage}
use Rattle.lsp_read.specs.lsp_session.declared.stage.Stage.TheVariants.{Fresh}
use Rattle.devices.specs.Faults.{Rose}
use Rattle.devices.specs.Parts.{AppendsPart}

-- What a session takes a message for, what it is after it, and what it says to it. Its checker changes only before it has begun, and nothing
-- is published then.
pub record Handles {C : Type 0} (Shows : C → List ℕ → List Report → Type 0) (TakenAs : Stage → Message → Message → C → C → Type 0) (old new : Session C) (m : Message) (said : Option Reply) : Type 0 where
  pub taken : Message
  pub takes : TakenAs old.stage m taken old.checker new.checker
  pub kept : (new.checker ≡ old.checker) ⊎ (old.stage ≡ Fresh)
  pub stage : new.stage ≡ stage_after old.stage taken
  pub documents : (uri : List ℕ) → document_of uri new ≡ document_after taken old.stage uri (document_of uri old)
  pub silent : old.stage ≡ Fresh → (uri : List ℕ) → published uri said ≡ None
  pub published : (uri : List ℕ) → PublishesNow (Shows new.checker) (document_of uri old) (document_of uri new) (published uri said)
  pub answered : answered said ≡ asked taken
  pub says : Says (Shows new.checker) old.stage (λ uri. document_of uri old) taken said

-- what was said to a message, and was written
pub record Responds {C : Type 0} (Shows : C → List ℕ → List Report → Type 0) (TakenAs : Stage → Message → Message → C → C → Type 0) (old new : Session C) (m : Message) (held held_now : Option (List ℕ)) : Type 0 where
  pub said : Option Reply
  pub handles : Handles Shows TakenAs old new m said
  pub wrote : Appends held held_now (said_bytes said)

-- the same, but a write failed
pub record RespondsPart {C : Type 0} (Shows : C → List ℕ → List Report → Type 0) (TakenAs : Stage → Message → Message → C → C → Type 0) (old new : Session C) (m : Message) (held held_now : Option (List ℕ)) (before now : ℕ) : Type 0 where
  pub said : Option Reply
  pub handles : Handles Shows TakenAs old new m said
  pub part : AppendsPart held held_now (said_bytes said)
  pub cause : Rose before now

-- why what is said to a message was not written
abbrev pub StopsSaying : End → List ℕ → Option (List ℕ) → Option (List ℕ) → ℕ → ℕ → Type 0
StopsSaying (Exited in_order) bytes held held_now before now = ⊥
StopsSaying EndOfInput bytes held held_now before now = ⊥
StopsSaying (BadFrame fault) bytes held held_now before now = ⊥
StopsSaying CutOff bytes held held_now before now = ⊥
StopsSaying ReadFault bytes held held_now before now = ⊥
StopsSaying WriteFault bytes held held_now before now = AppendsPart held held_now bytes × Rose before now
StopsSaying NoMemory bytes held held_now before now = Keeps held held_now

-- why a message has no answer
abbrev pub StopsResponding : {C : Type 0} → End → (C → List ℕ → List Report → Type 0) → (Stage → Message → Message → C → C → Type 0) → Session C → Session C → Message → Option (List ℕ) → Option (List ℕ) → ℕ → ℕ → Type 0
StopsResponding (Exited in_order) Shows TakenAs old new m held held_now before now = ⊥
StopsResponding EndOfInput Shows TakenAs old new m held held_now before now = ⊥
StopsResponding (BadFrame fault) Shows TakenAs old new m held held_now before now = ⊥
StopsResponding CutOff Shows TakenAs old new m held held_now before now = ⊥
StopsResponding ReadFault Shows TakenAs old new m held held_now before now = ⊥
StopsResponding WriteFault Shows TakenAs old new m held held_now before now = RespondsPart Shows TakenAs old new m held held_now before now
StopsResponding NoMemory Shows TakenAs old new m held held_now before now = Keeps held held_now

-- one turn: a message that was read, and what was said to it
pub record TakesTurn {C : Type 0} (Shows : C → List ℕ → List Report → Type 0) (TakenAs : Stage → Message → Message → C → C → Type 0) (old new : Session C) (from to : Option (List ℕ)) (before now : Streams) : Type 0 where
  pub message : Message
  pub read : BeginsWith message from to
  pub responds : Responds Shows TakenAs old new message before.held now.held

-- the same, but a write failed
pub record TakesPart {C : Type 0} (Shows : C → List ℕ → List Report → Type 0) (TakenAs : Stage → Message → Message → C → C → Type 0) (old new : Session C) (from to : Option (List ℕ)) (before now : Streams) : Type 0 where
  pub message : Message
  pub read : BeginsWith message from to
  pub responds : RespondsPart Shows TakenAs old new message before.held now.held before.write_faults now.write_faults

-- why there is no further turn
abbrev pub StopsTurn : {C : Type 0} → End → (C → List ℕ → List Report → Type 0) → (Stage → Message → Message → C → C → Type 0) → Session C → Session C → Option (List ℕ) → Option (List ℕ) → Streams → Streams → Type 0
StopsTurn (Exited in_order) Shows TakenAs old new from to before now = ⊥
StopsTurn EndOfInput Shows TakenAs old new from to before now = IsAtEnd from × Keeps before.held now.held
StopsTurn (BadFrame fault) Shows TakenAs old new from to before now = IsNoFrame from fault × Keeps before.held now.held
StopsTurn CutOff Shows TakenAs old new from to before now = IsPartOfFrame from × Keeps before.held now.held
StopsTurn ReadFault Shows TakenAs old new from to before now = Rose before.read_faults now.read_faults × Keeps before.held now.held
StopsTurn WriteFault Shows TakenAs old new from to before now = TakesPart Shows TakenAs old new from to before now
StopsTurn NoMemory Shows TakenAs old new from to before now = Keeps before.held now.held

-- what is known between two turns of all that was read, said and written, with the checker that the session had first
pub record SoFar {C : Type 0} (Shows : C → List ℕ → List Report → Type 0) (TakenAs : Stage → Message → Message → C → C → Type 0) (first : C) (session : Session C) (input rest : Option (List ℕ)) (old now : Streams) : Type 0 where
  pub received : List Message
  pub messages : List Message
  pub replies : List Reply
  pub read : AreRead input received rest
  pub taken : AreTaken TakenAs Fresh received messages first session.checker
  pub open_before : IsOpenBefore Fresh messages
  pub stage : session.stage ≡ stage_behind Fresh messages
  pub documents : (uri : List ℕ) → document_of uri session ≡ document_behind Fresh messages uri None
  pub silent : session.stage ≡ Fresh → (uri : List ℕ) → last_published uri replies ≡ None
  pub said : AreSaidTo (Shows session.checker) messages replies
  pub wrote : Appends old.held now.held (all_bytes replies)
  pub read_later : old.read_faults ≤ now.read_faults
  pub write_later : old.write_faults ≤ now.write_faults
