-- What is said to each message, with other documents of the same texts, by another checker, and with one message more.
use Rattle.std.proofs.Common.{◌≡◌, ◌≢◌, ◌∙◌, ap, append-nil, flat_map, option_to_list, refl, subst, sym, ℕ, Bool, List, [], ◌∷◌, ◌++◌, Option, Some, None, MatchOption}
use Rattle.std.proofs.lemmas.Grind.{flat_map-append}
use Rattle.lsp_read.specs.lsp_session.declared.message.Call.{Call}
use Rattle.lsp_read.specs.lsp_session.declared.message.Call.TheVariants.{Initialize, ConfigRefused, Shutdown, Actions, Hover, Misread, Unknown}
use Rattle.lsp_read.specs.lsp_session.declared.message.Document.{Document}
use Rattle.lsp_read.specs.lsp_session.declared.message.Message.{Message}
use Rattle.lsp_read.specs.lsp_session.declared.message.Message.TheVariants.{Request, Notice, Response, Unreadable}
use Rattle.lsp_read.specs.lsp_session.declared.message.Notice as notice
use Rattle.lsp_read.specs.lsp_session.declared.message.Notice.TheVariants.{Exit, Opened, Changed, Closed, Other}
use Rattle.lsp_read.specs.lsp_session.declared.reply.Answer as answer
use Rattle.lsp_read.specs.lsp_session.declared.reply.Answer.TheVariants.{Capabilities, Done, Remedies, Explanation, Refused, Failed}
use Rattle.lsp_read.specs.lsp_session.declared.reply.Reply.{Reply}
use Rattle.lsp_read.specs.lsp_session.declared.reply.Reply.TheVariants.{Answer, Reports}
use Rattle.lsp_read.specs.lsp_session.declared.report.Report.{Report}
use Rattle.lsp_serve.specs.Said.{SaysEach}
use Rattle.lsp_read.specs.lsp_session.Conversation.{document_behind, stage_behind}
use Rattle.lsp_read.specs.lsp_session.Session.{AnswerFits, Answers, AreReportsOf, IsPublication, Says, SaysOf, document_after}
use Rattle.lsp_read.specs.lsp_session.Stages.{refusal_at, stage_after, stage_called}
use Rattle.lsp_read.specs.lsp_session.declared.stage.Stage.{Stage}
use Rattle.lsp_read.specs.lsp_session.declared.stage.Stage.TheVariants.{Fresh, Running, Down, Gone}

match_other : {A : Type 0} (o : Option A) (P Q : Type 0) (R : A → Type 0) → (P → Q) → MatchOption o P R → MatchOption o Q R
match_other None P Q R f h = f h
match_other (Some x) P Q R f h = h

-- ---- the same documents

module _ (Shows : List ℕ → List Report → Type 0) (one other : List ℕ → Option Document) (same : (uri : List ℕ) → one uri ≡ other uri) where
  reports_same : (uri : List ℕ) (found : List Report) → AreReportsOf Shows (one uri) found → AreReportsOf Shows (other uri) found
  reports_same uri found h = subst (λ d. AreReportsOf Shows d found) (same uri) h

  answers_same : (c : Call) (a : answer.Answer) → Answers Shows one c a → Answers Shows other c a
  answers_same (Initialize root) a h = h
  answers_same (ConfigRefused line) a h = h
  answers_same Shutdown a h = h
  answers_same (Actions uri start end) (Remedies name reports from to) h = (h.0, h.1, h.2, reports_same uri reports.items h.3)
  answers_same (Actions uri start end) Capabilities h = absurd h
  answers_same (Actions uri start end) Done h = absurd h
  answers_same (Actions uri start end) (Explanation reports at) h = absurd h
  answers_same (Actions uri start end) (Refused why) h = absurd h
  answers_same (Actions uri start end) (Failed why) h = absurd h
  answers_same (Hover uri at) (Explanation reports place) h = (h.0, reports_same uri reports.items h.1)
  answers_same (Hover uri at) Capabilities h = absurd h
  answers_same (Hover uri at) Done h = absurd h
  answers_same (Hover uri at) (Remedies name reports from to) h = absurd h
  answers_same (Hover uri at) (Refused why) h = absurd h
  answers_same (Hover uri at) (Failed why) h = absurd h
  answers_same Misread a h = h
  answers_same Unknown a h = h

  fits_same : (stage : Stage) (c : Call) (a : answer.Answer) → AnswerFits Shows stage one c a → AnswerFits Shows stage other c a
  fits_same stage c a h = match_other (refusal_at stage c) (Answers Shows one c a) (Answers Shows other c a) (λ why. a ≡ Refused why) (answers_same c a) h

  news_same : (n : notice.Notice) (said : Option Reply) → SaysOf Shows one n said → SaysOf Shows other n said
  news_same Exit said h = h
  news_same (Opened uri document) said h = h
  news_same (Changed uri document) said h = subst (λ d. MatchOption d (said ≡ None) (λ _. IsPublication Shows uri (Some document) said)) (same uri) h
  news_same (Closed uri) said h = h
  news_same Other said h = h

  heard_same : (stage : Stage) (n : notice.Notice) (said : Option Reply) → Says Shows stage one (Notice n) said → Says Shows stage other (Notice n) said
  heard_same Fresh n said h = h
  heard_same Running n said h = news_same n said h
  heard_same Down n said h = h
  heard_same (Gone in_order) n said h = h

  pub says_same : (stage : Stage) (m : Message) (said : Option Reply) → Says Shows stage one m said → Says Shows stage other m said
  says_same stage (Request id call) None h = absurd h
  says_same stage (Request id call) (Some (Answer name a)) h = (h.0, fits_same stage call a h.1)
  says_same stage (Request id call) (Some (Reports uri version reports)) h = absurd h
  says_same stage (Notice n) said h = heard_same stage n said h
  says_same stage Response said h = h
  says_same stage (Unreadable why) said h = h

-- ---- before the session has begun, no answer is of reports

module _ (Old New : List ℕ → List Report → Type 0) (documents : List ℕ → Option Document) where
  fits_fresh : (c : Call) (a : answer.Answer) → AnswerFits Old Fresh documents c a → AnswerFits New Fresh documents c a
  fits_fresh (Initialize root) a h = h
  fits_fresh (ConfigRefused line) a h = h
  fits_fresh Shutdown a h = h
  fits_fresh (Actions uri start end) a h = h
  fits_fresh (Hover uri at) a h = h
  fits_fresh Misread a h = h
  fits_fresh Unknown a h = h

  pub says_fresh : (m : Message) (said : Option Reply) → Says Old Fresh documents m said → Says New Fresh documents m said
  says_fresh (Request id call) None h = absurd h
  says_fresh (Request id call) (Some (Answer name a)) h = (h.0, fits_fresh call a h.1)
  says_fresh (Request id call) (Some (Reports uri version reports)) h = absurd h
  says_fresh (Notice n) said h = h
  says_fresh Response said h = h
  says_fresh (Unreadable why) said h = h

-- ---- a session that has not begun had not begun before

call_at_work : (c : Call) → stage_called Running c ≢ Fresh
call_at_work (Initialize root) e = absurd cc
call_at_work (ConfigRefused line) e = absurd cc
call_at_work Shutdown e = absurd cc
call_at_work (Actions uri start end) e = absurd cc
call_at_work (Hover uri at) e = absurd cc
call_at_work Misread e = absurd cc
call_at_work Unknown e = absurd cc

at_work : (m : Message) → stage_after Running m ≢ Fresh
at_work (Request id call) e = call_at_work call e
at_work (Notice Exit) e = absurd cc
at_work (Notice (Opened uri document)) e = absurd cc
at_work (Notice (Changed uri document)) e = absurd cc
at_work (Notice (Closed uri)) e = absurd cc
at_work (Notice Other) e = absurd cc
at_work Response e = absurd cc
at_work (Unreadable why) e = absurd cc

called_down : (c : Call) → stage_called Down c ≢ Fresh
called_down c e = absurd cc

down : (m : Message) → stage_after Down m ≢ Fresh
down (Request id call) e = called_down call e
down (Notice Exit) e = absurd cc
down (Notice (Opened uri document)) e = absurd cc
down (Notice (Changed uri document)) e = absurd cc
down (Notice (Closed uri)) e = absurd cc
down (Notice Other) e = absurd cc
down Response e = absurd cc
down (Unreadable why) e = absurd cc

called_gone : (b : Bool) (c : Call) → stage_called (Gone b) c ≢ Fresh
called_gone b c e = absurd cc

gone_by : (b : Bool) (m : Message) → stage_after (Gone b) m ≢ Fresh
gone_by b (Request id call) e = called_gone b call e
gone_by b (Notice Exit) e = absurd cc
gone_by b (Notice (Opened uri document)) e = absurd cc
gone_by b (Notice (Changed uri document)) e = absurd cc
gone_by b (Notice (Closed uri)) e = absurd cc
gone_by b (Notice Other) e = absurd cc
gone_by b Response e = absurd cc
gone_by b (Unreadable why) e = absurd cc

-- a session that has not begun after a message had not begun before it
pub fresh_before : (stage : Stage) (m : Message) → stage_after stage m ≡ Fresh → stage ≡ Fresh
fresh_before Fresh m e = refl
fresh_before Running m e = absurd (at_work m e)
fresh_before Down m e = absurd (down m e)
fresh_before (Gone b) m e = absurd (gone_by b m e)

fresh_first : (stage : Stage) (messages : List Message) → stage_behind stage messages ≡ Fresh → stage ≡ Fresh
unfolding stage_behind
fresh_first stage [] e = e
fresh_first stage (m ∷ ms) e = fresh_before stage m (fresh_first (stage_after stage m) ms e)

-- ---- all messages

pub says_anew : (Old New : List ℕ → List Report → Type 0) (stage : Stage) (documents : List ℕ → Option Document) (messages : List Message) (said : List (Option Reply))
    → stage_behind stage messages ≡ Fresh → SaysEach Old stage documents messages said → SaysEach New stage documents messages said
unfolding SaysEach stage_behind
says_anew Old New stage documents [] [] e h = h
says_anew Old New stage documents [] (s ∷ ss) e h = absurd h
says_anew Old New stage documents (m ∷ ms) [] e h = absurd h
says_anew Old New stage documents (m ∷ ms) (s ∷ ss) e h =
    let fresh : stage ≡ Fresh = fresh_before stage m (fresh_first (stage_after stage m) ms e) in
    let first = subst (λ at. Says Old at documents m s) fresh h.0 in (
      subst (λ at. Says New at documents m s) (sym fresh) (says_fresh Old New documents m s first),
      says_anew Old New (stage_after stage m) (λ uri. document_after m stage uri (documents uri)) ms ss e h.1,
    )

pub says_more : (Shows : List ℕ → List Report → Type 0) (stage : Stage) (documents : List ℕ → Option Document) (messages : List Message) (said : List (Option Reply)) (m : Message) (s : Option Reply)
    → SaysEach Shows stage documents messages said → Says Shows (stage_behind stage messages) (λ uri. document_behind stage messages uri (documents uri)) m s
    → SaysEach Shows stage documents (messages ++ m ∷ []) (said ++ s ∷ [])
unfolding SaysEach stage_behind document_behind
says_more Shows stage documents [] [] m s h one = (one, tt)
says_more Shows stage documents [] (y ∷ ys) m s h one = absurd h
says_more Shows stage documents (x ∷ xs) [] m s h one = absurd h
says_more Shows stage documents (x ∷ xs) (y ∷ ys) m s h one =
    (h.0, says_more Shows (stage_after stage x) (λ uri. document_after x stage uri (documents uri)) xs ys m s h.1 one)

-- the replies among what was said, with one thing more
pub replies_more : (said : List (Option Reply)) (s : Option Reply) (replies : List Reply) → replies ≡ flat_map option_to_list said
    → replies ++ option_to_list s ≡ flat_map option_to_list (said ++ s ∷ [])
replies_more said s replies e =
    ap (λ l. l ++ option_to_list s) e ∙ ap (λ l. flat_map option_to_list said ++ l) (sym (append-nil (option_to_list s)))
    ∙ sym (flat_map-append option_to_list said (s ∷ []))
