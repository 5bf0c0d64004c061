-- What a message does to a session, and what is said to it.
use Rattle.std.specs.Prelude.{◌≡◌, ℕ, ℤ, List, [], ◌∷◌, Some, None, Option, option_map, option_and_then, bytes_eq, if◌then◌else◌, MatchOption}
use Rattle.std.specs.BTreeMap.{get_by_text}
use Rattle.lsp_session.specs.declared.message.Id.{Id}
use Rattle.lsp_session.specs.declared.message.Id.TheVariants.{Null}
use Rattle.lsp_session.specs.declared.message.Call.{Call}
use Rattle.lsp_session.specs.declared.message.Call.TheVariants.{Initialize, ConfigRefused, Actions, Hover}
use Rattle.lsp_session.specs.declared.message.Document.{Document}
use Rattle.lsp_session.specs.declared.message.Message.{Message}
use Rattle.lsp_session.specs.declared.message.Message.TheVariants.{Request, Notice, Response, Unreadable}
use Rattle.lsp_session.specs.declared.message.Notice as notice
use Rattle.lsp_session.specs.declared.message.Notice.TheVariants.{Opened, Changed, Closed}
use Rattle.lsp_session.specs.declared.reply.Answer as answer
use Rattle.lsp_session.specs.declared.reply.Answer.TheVariants.{Capabilities, Done, Remedies, Explanation, Refused, Failed}
use Rattle.lsp_session.specs.declared.reply.Reply.{Reply}
use Rattle.lsp_session.specs.declared.reply.Reply.TheVariants.{Answer, Reports}
use Rattle.lsp_session.specs.declared.report.Report.{Report}
use Rattle.lsp_session.specs.declared.session.Session.{Session}
use Rattle.lsp_session.specs.declared.stage.Stage.{Stage}
use Rattle.lsp_session.specs.declared.stage.Stage.TheVariants.{Running}
use Rattle.lsp_session.specs.Stages.{refusal_at}

-- a document, where it is open
abbrev pub document_of : {C : Type 0} → List ℕ → Session C → Option Document
document_of uri session = get_by_text session.documents uri

-- a document after a notification: only one that is open can be changed
abbrev pub document_by : notice.Notice → List ℕ → Option Document → Option Document
document_by (Opened name new) uri document = if bytes_eq name uri then Some new else document
document_by (Changed name new) uri document = if bytes_eq name uri then option_map (λ _. new) document else document
document_by (Closed name) uri document = if bytes_eq name uri then None else document
document_by unknown uri document = document

-- a document after a message
abbrev pub document_after : Message → Stage → List ℕ → Option Document → Option Document
document_after (Notice news) Running uri document = document_by news uri document
document_after message stage uri document = document

-- the names under which a message asks for an answer: a request once, under its own, and what is no message once, under none
abbrev pub asked : Message → List Id
asked (Request id call) = id ∷ []
asked (Unreadable why) = Null ∷ []
asked other = []

-- the names under which a reply answers
abbrev pub answered : Option Reply → List Id
answered (Some (Answer id answer)) = id ∷ []
answered other = []

-- what is published of a document: the version of its text, and the reports of it
pub record Published : Type 0 where
  pub version : Option ℤ
  pub reports : List Report

-- what a reply publishes of a document
abbrev pub published : List ℕ → Option Reply → Option Published
published uri (Some (Reports name version reports)) = if bytes_eq name uri then Some (record { version = version; reports = reports.items }) else None
published uri other = None

module _ (Shows : List ℕ → List Report → Type 0) where
  -- These are the reports of a document; one that is not open has none.
  abbrev pub AreReportsOf : Option Document → List Report → Type 0
  AreReportsOf document found = MatchOption document (found ≡ []) (λ d. Shows d.text found)

  -- What is published of a document are its version and its reports.
  abbrev pub IsPublishedOf : Option Document → Published → Type 0
  IsPublishedOf document said = (said.version ≡ option_and_then (λ d. d.version) document) × AreReportsOf document said.reports

  -- What is published of a document fits it as it is now. Where nothing is published of it, it is as before.
  abbrev pub PublishesNow : Option Document → Option Document → Option Published → Type 0
  PublishesNow old new said = MatchOption said (new ≡ old) (IsPublishedOf new)

  -- the answer to a request that is not refused, with these documents open
  abbrev pub Answers : (List ℕ → Option Document) → Call → answer.Answer → Type 0
  Answers documents (Initialize root) a = a ≡ Capabilities
  Answers documents (ConfigRefused line) a = a ≡ Failed line
  Answers documents (Actions uri start end) (Remedies name reports from to) =
      (name ≡ uri) × (from ≡ start) × (to ≡ end) × AreReportsOf (documents uri) reports.items
  Answers documents (Actions uri start end) other = ⊥
  Answers documents (Hover uri at) (Explanation reports place) = (place ≡ at) × AreReportsOf (documents uri) reports.items
  Answers documents (Hover uri at) other = ⊥
  Answers documents other a = a ≡ Done

  -- the answer to a request at a stage
  abbrev pub AnswerFits : Stage → (List ℕ → Option Document) → Call → answer.Answer → Type 0
  AnswerFits stage documents call a = MatchOption (refusal_at stage call) (Answers documents call a) (λ why. a ≡ Refused why)

  -- The reports of a document that becomes this are published; one that is closed has neither version nor reports.
  abbrev pub IsPublication : List ℕ → Option Document → Option Reply → Type 0
  IsPublication uri document (Some (Reports name version reports)) =
      (name ≡ uri) × (version ≡ option_and_then (λ d. d.version) document) × AreReportsOf document reports.items
  IsPublication uri document other = ⊥

  -- What is said to a notification is what is published of the document that it opens, changes or closes. One that is not open can't be
  -- changed, so nothing is said then.
  abbrev pub SaysOf : (List ℕ → Option Document) → notice.Notice → Option Reply → Type 0
  SaysOf documents (Opened uri document) said = IsPublication uri (Some document) said
  SaysOf documents (Changed uri document) said = MatchOption (documents uri) (said ≡ None) (λ _. IsPublication uri (Some document) said)
  SaysOf documents (Closed uri) said = IsPublication uri None said
  SaysOf documents unknown said = said ≡ None

  -- what is said to a message at a stage, with these documents open
  abbrev pub Says : Stage → (List ℕ → Option Document) → Message → Option Reply → Type 0
  Says stage documents (Request id call) (Some (Answer name a)) = (name ≡ id) × AnswerFits stage documents call a
  Says stage documents (Request id call) other = ⊥
  Says Running documents (Notice news) said = SaysOf documents news said
  Says stage documents (Notice news) said = said ≡ None
  Says stage documents (Unreadable why) said = said ≡ Some (Answer Null (Refused why))
  Says stage documents Response said = said ≡ None
