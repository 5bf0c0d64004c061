-- What is said to messages, and the bytes that are written for it.
use Rattle.std.specs.Prelude.{◌≡◌, ℕ, List, [], ◌∷◌, Option, Some, None, flat_map, option_to_list, ⊤}
use Rattle.lsp_read.specs.lsp_session.declared.message.Document.{Document}
use Rattle.lsp_serve.specs.Frame.{frame}
use Rattle.lsp_read.specs.lsp_session.declared.message.Message.{Message}
use Rattle.lsp_read.specs.lsp_session.declared.reply.Reply.{Reply}
use Rattle.lsp_read.specs.lsp_session.declared.report.Report.{Report}
use Rattle.lsp_serve.specs.Ends.{exit_at}
use Rattle.lsp_read.specs.lsp_session.Conversation.{all_answered, all_asked, document_behind, last_published}
use Rattle.lsp_read.specs.lsp_session.Session.{PublishesNow, Says, document_after}
use Rattle.lsp_read.specs.lsp_session.Stages.{stage_after}
use Rattle.lsp_read.specs.lsp_session.declared.stage.Stage.{Stage}
use Rattle.lsp_read.specs.lsp_session.declared.stage.Stage.TheVariants.{Fresh}
use Rattle.lsp_write.specs.Reply.{reply_text}

-- a reply as it is written: the frame of its JSON
abbrev pub reply_bytes : Reply → List ℕ
reply_bytes reply = frame (reply_text reply)

abbrev pub said_bytes : Option Reply → List ℕ
said_bytes None = []
said_bytes (Some reply) = reply_bytes reply

abbrev pub all_bytes : List Reply → List ℕ
all_bytes replies = flat_map reply_bytes replies

-- What is said to each of these messages, from this stage and these documents on: what fits the message, the stage and the documents when it
-- comes.
unfoldable pub SaysEach : (List ℕ → List Report → Type 0) → Stage → (List ℕ → Option Document) → List Message → List (Option Reply) → Type 0
SaysEach Shows stage documents [] [] = ⊤
SaysEach Shows stage documents [] (s ∷ ss) = ⊥
SaysEach Shows stage documents (m ∷ ms) [] = ⊥
SaysEach Shows stage documents (m ∷ ms) (s ∷ ss) =
    Says Shows stage documents m s × SaysEach Shows (stage_after stage m) (λ uri. document_after m stage uri (documents uri)) ms ss

-- What was said to all messages of a session, from its start: the replies are what was said to each of them, in turn, where something was;
-- the names under which they answer are those under which messages ask, in order; and what was published last of each document are the
-- version and the reports of the text that it has now, none where it is closed.
pub record AreSaidTo (Shows : List ℕ → List Report → Type 0) (messages : List Message) (replies : List Reply) : Type 0 where
  pub each : List (Option Reply)
  pub says : SaysEach Shows Fresh (λ uri. None) messages each
  pub written : replies ≡ flat_map option_to_list each
  pub answered : all_answered replies ≡ all_asked messages
  pub published : (uri : List ℕ) → PublishesNow Shows None (document_behind Fresh messages uri None) (last_published uri replies)

-- These messages of a client are taken for those, one by one, and the checker becomes the other.
unfoldable pub AreTaken : {C : Type 0} → (Stage → Message → Message → C → C → Type 0) → Stage → List Message → List Message → C → C → Type 0
AreTaken TakenAs stage [] [] old new = new ≡ old
AreTaken TakenAs stage [] (t ∷ ts) old new = ⊥
AreTaken TakenAs stage (m ∷ ms) [] old new = ⊥
AreTaken {C} TakenAs stage (m ∷ ms) (t ∷ ts) old new = (mid : C) × TakenAs stage m t old mid × AreTaken TakenAs (stage_after stage t) ms ts mid new

-- The session has not ended.
abbrev pub IsOpen : Stage → Type 0
IsOpen stage = exit_at stage ≡ None

-- It has not ended before any of these messages.
unfoldable pub IsOpenBefore : Stage → List Message → Type 0
IsOpenBefore stage [] = ⊤
IsOpenBefore stage (m ∷ ms) = IsOpen stage × IsOpenBefore (stage_after stage m) ms
