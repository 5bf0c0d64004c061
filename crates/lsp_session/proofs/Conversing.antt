-- Conversations, one message at a time.
use Rattle.std.proofs.Common.{◌≡◌, ◌∙◌, ℕ, List, [], ◌∷◌, ◌++◌, Some, None, option_to_list, append_assoc, append-nil, refl, sym, ap, subst}
use Rattle.std.specs.declared.option.Option.{Option}
use Rattle.std.proofs.lemmas.Grind.{flat_map-append}
use Rattle.lsp_session.specs.declared.message.Document.{Document}
use Rattle.lsp_session.specs.declared.message.Id.{Id}
use Rattle.lsp_session.specs.declared.message.Message.{Message}
use Rattle.lsp_session.specs.declared.reply.Reply.{Reply}
use Rattle.lsp_session.specs.declared.report.Report.{Report}
use Rattle.lsp_session.specs.declared.stage.Stage.{Stage}
use Rattle.lsp_session.specs.Conversation.{all_answered, all_asked, last_published, later, stage_behind, document_behind}
use Rattle.lsp_session.specs.Session.{answered, asked, document_after, published, Published, PublishesNow}
use Rattle.lsp_session.specs.Stages.{stage_after}

-- the stage and a document after all messages, from those after the first
pub stage_onward : (stage now end : Stage) (m : Message) (rest all : List Message)
    → now ≡ stage_after stage m → all ≡ m ∷ rest → stage_behind stage all ≡ end → stage_behind now rest ≡ end
unfolding stage_behind
stage_onward stage now end m rest all step first h = ap (λ s. stage_behind s rest) step ∙ ap (stage_behind stage) (sym first) ∙ h

pub document_onward : (stage now : Stage) (m : Message) (rest all : List Message) (uri : List ℕ) (old new end : Option Document)
    → now ≡ stage_after stage m → new ≡ document_after m stage uri old → all ≡ m ∷ rest
    → document_behind stage all uri old ≡ end → document_behind now rest uri new ≡ end
unfolding document_behind
document_onward stage now m rest all uri old new end step text first h =
    ap (λ s. document_behind s rest uri new) step ∙ ap (document_behind (stage_after stage m) rest uri) text
    ∙ ap (λ l. document_behind stage l uri old) (sym first) ∙ h

-- what is published last, with one more reply
later-none : {X : Type 0} (a : Option X) → later a None ≡ a
unfolding later
later-none None = refl
later-none (Some x) = refl

later-assoc : {X : Type 0} (a b c : Option X) → later (later a b) c ≡ later a (later b c)
unfolding later
later-assoc None b c = refl
later-assoc (Some x) b c = refl

none-later : {X : Type 0} (a : Option X) → later None a ≡ a
unfolding later
none-later a = refl

pub last_published-more : (uri : List ℕ) (replies : List Reply) (r : Reply)
    → last_published uri (replies ++ r ∷ []) ≡ later (published uri (Some r)) (last_published uri replies)
unfolding last_published
last_published-more uri [] r = none-later (published uri (Some r)) ∙ sym (later-none (published uri (Some r)))
last_published-more uri (x ∷ xs) r = ap (λ l. later l (published uri (Some x))) (last_published-more uri xs r) ∙ later-assoc _ _ _

pub publishes_later : (Shows : List ℕ → List Report → Type 0) (old mid new : Option Document) (first second : Option Published)
    → PublishesNow Shows old mid first → PublishesNow Shows mid new second → PublishesNow Shows old new (later second first)
unfolding later
publishes_later Shows old mid new first None p q = subst (λ n. PublishesNow Shows old n first) (sym q) p
publishes_later Shows old mid new first (Some found) p q = q

answered_one : (r : Option Reply) → all_answered (option_to_list r) ≡ answered r
answered_one None = refl
answered_one (Some r) = append-nil (answered (Some r))

-- the names that were answered and those that are still asked for, after one more message
pub answered_onward : (replies : List Reply) (said : Option Reply) (more : List Reply) (m : Message) (rest all : List Message) (end : List Id)
    → more ≡ replies ++ option_to_list said → answered said ≡ asked m → all ≡ m ∷ rest
    → all_answered replies ++ all_asked all ≡ end → all_answered more ++ all_asked rest ≡ end
answered_onward replies said more m rest all end grown same first h =
    ap (λ l. all_answered l ++ all_asked rest) grown
    ∙ ap (λ l. l ++ all_asked rest) (flat_map-append (λ r. answered (Some r)) replies (option_to_list said) ∙ ap (λ l. all_answered replies ++ l) (answered_one said))
    ∙ append_assoc (all_answered replies) (answered said) (all_asked rest)
    ∙ ap (λ l. all_answered replies ++ (l ++ all_asked rest)) same
    ∙ ap (λ l. all_answered replies ++ all_asked l) (sym first) ∙ h

-- what is published last of a document fits it, after one more message
pub published_onward : (Shows : List ℕ → List Report → Type 0) (old mid new : Option Document) (uri : List ℕ) (replies : List Reply) (said : Option Reply) (more : List Reply)
    → more ≡ replies ++ option_to_list said → PublishesNow Shows old mid (last_published uri replies) → PublishesNow Shows mid new (published uri said)
    → PublishesNow Shows old new (last_published uri more)
unfolding later
published_onward Shows old mid new uri replies None more grown p q =
    subst (λ l. PublishesNow Shows old new (last_published uri l)) (sym (grown ∙ append-nil replies)) (publishes_later Shows old mid new (last_published uri replies) None p q)
published_onward Shows old mid new uri replies (Some r) more grown p q =
    subst (λ l. PublishesNow Shows old new (last_published uri l)) (sym grown) (
    subst (PublishesNow Shows old new) (sym (last_published-more uri replies r)) (publishes_later Shows old mid new (last_published uri replies) (published uri (Some r)) p q)
    )

-- no message is left
pub stage_at_end : (stage end : Stage) (rest : List Message) → rest ≡ [] → stage_behind stage rest ≡ end → stage ≡ end
unfolding stage_behind
stage_at_end stage end rest none h = ap (stage_behind stage) (sym none) ∙ h

pub document_at_end : (stage : Stage) (rest : List Message) (uri : List ℕ) (text end : Option Document)
    → rest ≡ [] → document_behind stage rest uri text ≡ end → text ≡ end
unfolding document_behind
document_at_end stage rest uri text end none h = ap (λ l. document_behind stage l uri text) (sym none) ∙ h

-- ---- one message at the end

pub stage_behind-more : (stage : Stage) (messages : List Message) (m : Message) → stage_behind stage (messages ++ m ∷ []) ≡ stage_after (stage_behind stage messages) m
unfolding stage_behind
stage_behind-more stage [] m = refl
stage_behind-more stage (x ∷ xs) m = stage_behind-more (stage_after stage x) xs m

pub document_behind-more : (stage : Stage) (messages : List Message) (m : Message) (uri : List ℕ) (document : Option Document)
    → document_behind stage (messages ++ m ∷ []) uri document ≡ document_after m (stage_behind stage messages) uri (document_behind stage messages uri document)
unfolding document_behind stage_behind
document_behind-more stage [] m uri document = refl
document_behind-more stage (x ∷ xs) m uri document = document_behind-more (stage_after stage x) xs m uri (document_after x stage uri document)

pub answered-more : (messages : List Message) (replies : List Reply) (m : Message) (said : Option Reply)
    → all_answered replies ≡ all_asked messages → answered said ≡ asked m
    → all_answered (replies ++ option_to_list said) ≡ all_asked (messages ++ m ∷ [])
answered-more messages replies m said before now =
    flat_map-append (λ r. answered (Some r)) replies (option_to_list said)
    ∙ ap (λ l. all_answered replies ++ l) (answered_one said ∙ now)
    ∙ ap (λ l. l ++ asked m) before
    ∙ sym (flat_map-append asked messages (m ∷ []) ∙ ap (λ l. all_asked messages ++ l) (append-nil (asked m)))
