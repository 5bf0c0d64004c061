-- Whole conversations.
use Rattle.std.specs.Prelude.{ℕ, List, [], ◌∷◌, Some, None, Option, flat_map}
use Rattle.lsp_session.specs.declared.message.Document.{Document}
use Rattle.lsp_session.specs.declared.message.Id.{Id}
use Rattle.lsp_session.specs.declared.message.Message.{Message}
use Rattle.lsp_session.specs.declared.reply.Reply.{Reply}
use Rattle.lsp_session.specs.declared.stage.Stage.{Stage}
use Rattle.lsp_session.specs.Session.{answered, asked, document_after, published, Published}
use Rattle.lsp_session.specs.Stages.{stage_after}

-- the names under which messages ask for answers, and those under which replies answer, in order
abbrev pub all_asked : List Message → List Id
all_asked messages = flat_map asked messages

abbrev pub all_answered : List Reply → List Id
all_answered replies = flat_map (λ r. answered (Some r)) replies

-- the stage after messages
unfoldable pub stage_behind : Stage → List Message → Stage
stage_behind stage [] = stage
stage_behind stage (m ∷ ms) = stage_behind (stage_after stage m) ms

-- a document after messages
unfoldable pub document_behind : Stage → List Message → List ℕ → Option Document → Option Document
document_behind stage [] uri document = document
document_behind stage (m ∷ ms) uri document = document_behind (stage_after stage m) ms uri (document_after m stage uri document)

-- the later of two things that may be published
unfoldable pub later : {X : Type 0} → Option X → Option X → Option X
later None old = old
later (Some new) old = Some new

-- what is published last of a document, where anything is published of it
unfoldable pub last_published : List ℕ → List Reply → Option Published
last_published uri [] = None
last_published uri (r ∷ rs) = later (last_published uri rs) (published uri (Some r))
