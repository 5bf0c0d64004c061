-- What a server read, said and wrote, and why it ended.
use Rattle.std.specs.Prelude.{◌≡◌, ℕ, List, [], ◌∷◌, Err, ⊤}
use Rattle.std.specs.declared.option.Option.{Option}
use Rattle.std.specs.Io.KnownBytes.{Appends, Consumes, IsAtEnd}
use Rattle.lsp_serve.specs.Frame.{front_of}
use Rattle.lsp_serve.specs.Reading.{TakesMessage, IsCutOff, coming}
use Rattle.lsp_serve.specs.declared.front.Fault.{Fault}
use Rattle.lsp_read.specs.lsp_session.declared.message.Message.{Message}
use Rattle.lsp_read.specs.lsp_session.declared.reply.Reply.{Reply}
use Rattle.lsp_read.specs.Message.{message_of}
use Rattle.lsp_read.specs.lsp_session.declared.report.Report.{Report}
use Rattle.lsp_serve.specs.Said.{AreSaidTo, AreTaken, IsOpen, IsOpenBefore, all_bytes}
use Rattle.lsp_serve.specs.declared.end.End.{End}
use Rattle.lsp_serve.specs.declared.end.End.TheVariants.{Exited, EndOfInput, BadFrame, CutOff, ReadFault, WriteFault, NoMemory}
use Rattle.lsp_read.specs.lsp_session.Conversation.{stage_behind}
use Rattle.lsp_read.specs.lsp_session.declared.stage.Stage.{Stage}
use Rattle.lsp_read.specs.lsp_session.declared.stage.Stage.TheVariants.{Fresh, Gone}
use Rattle.devices.specs.Faults.{Rose}
use Rattle.devices.specs.Parts.{AppendsPart}

-- How often reads and writes failed, and what the sink holds, as far as that is known.
pub record Streams : Type 0 where
  pub read_faults : ℕ
  pub held : Option (List ℕ)
  pub write_faults : ℕ

-- ---- what was read

-- What was to come begins with the frame of a message, and this comes after it.
pub record BeginsWith (m : Message) (old new : Option (List ℕ)) : Type 0 where
  pub content : List ℕ
  pub unread : List ℕ
  pub left : Option (List ℕ)
  pub takes : TakesMessage content old unread left
  pub behind : new ≡ coming unread left
  pub is : m ≡ message_of content

-- What was to come begins with the frames of these messages, in turn, and this comes after them.
unfoldable pub AreRead : Option (List ℕ) → List Message → Option (List ℕ) → Type 0
AreRead old [] new = new ≡ old
AreRead old (m ∷ ms) new = (mid : Option (List ℕ)) × BeginsWith m old mid × AreRead mid ms new

-- ---- why it ended

-- what comes begins with no message
pub record IsNoFrame (coming : Option (List ℕ)) (fault : Fault) : Type 0 where
  pub seen : List ℕ
  pub left : Option (List ℕ)
  pub kept : Consumes coming left seen
  pub refused : front_of seen ≡ Err fault

-- what comes is a part of a message, and not nothing
pub record IsPartOfFrame (coming : Option (List ℕ)) : Type 0 where
  pub seen : List ℕ
  pub left : Option (List ℕ)
  pub cut_off : IsCutOff coming seen left

-- why it ended, by the stage that the messages led to, what came after them, and the counts of failures before and after
abbrev pub EndsFor : End → Stage → Option (List ℕ) → Streams → Streams → Type 0
EndsFor (Exited in_order) stage rest old new = stage ≡ Gone in_order
EndsFor EndOfInput stage rest old new = IsOpen stage × IsAtEnd rest
EndsFor (BadFrame fault) stage rest old new = IsOpen stage × IsNoFrame rest fault
EndsFor CutOff stage rest old new = IsOpen stage × IsPartOfFrame rest
EndsFor ReadFault stage rest old new = IsOpen stage × Rose old.read_faults new.read_faults
EndsFor WriteFault stage rest old new = Rose old.write_faults new.write_faults
EndsFor NoMemory stage rest old new = ⊤

-- The sink has all that was said; where a write failed, a front part of it.
abbrev pub WroteFor : End → Streams → Streams → List ℕ → Type 0
WroteFor (Exited in_order) old new bytes = Appends old.held new.held bytes
WroteFor EndOfInput old new bytes = Appends old.held new.held bytes
WroteFor (BadFrame fault) old new bytes = Appends old.held new.held bytes
WroteFor CutOff old new bytes = Appends old.held new.held bytes
WroteFor ReadFault old new bytes = Appends old.held new.held bytes
WroteFor WriteFault old new bytes = AppendsPart old.held new.held bytes
WroteFor NoMemory old new bytes = Appends old.held new.held bytes

-- What a server did: the messages that it received are those of the frames of the input, in turn; it took them for these, and its checker became
-- the last one; the session was open before each of them; the replies are what is said to each of them, with the reports that the last checker
-- shows; and the sink has their frames.
pub record Served {C : Type 0} (Shows : C → List ℕ → List Report → Type 0) (TakenAs : Stage → Message → Message → C → C → Type 0) (first : C) (input : Option (List ℕ)) (old new : Streams) (end : End) : Type 0 where
  pub last : C
  pub received : List Message
  pub messages : List Message
  pub replies : List Reply
  pub rest : Option (List ℕ)
  pub read : AreRead input received rest
  pub taken : AreTaken TakenAs Fresh received messages first last
  pub open_before : IsOpenBefore Fresh messages
  pub said : AreSaidTo (Shows last) messages replies
  pub wrote : WroteFor end old new (all_bytes replies)
  pub cause : EndsFor end (stage_behind Fresh messages) rest old new
