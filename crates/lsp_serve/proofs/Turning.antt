-- Turns of a server, one by one.
use Rattle.std.proofs.Common.{◌≡◌, ◌∙◌, ◌⊎◌, ◌≤◌, ap, arith, inl, inr, refl, subst, sym, append-nil, ℕ, Bool, List, [], ◌∷◌, ◌++◌, Option, Some, None, option_to_list}
use Rattle.std.proofs.KnownBytes.{Appends-kept, Appends-nil, Appends-trans}
use Rattle.std.proofs.lemmas.Grind.{flat_map-append}
use Rattle.std.specs.Io.KnownBytes.{Appends}
use Rattle.lsp_read.specs.lsp_session.declared.message.Document.{Document}
use Rattle.lsp_read.specs.lsp_session.declared.message.Message.{Message}
use Rattle.lsp_read.specs.lsp_session.declared.reply.Reply.{Reply}
use Rattle.lsp_read.specs.lsp_session.declared.report.Report.{Report}
use Rattle.lsp_serve.specs.declared.end.End.{End}
use Rattle.lsp_serve.specs.declared.end.End.TheVariants.{Exited, EndOfInput, BadFrame, CutOff, ReadFault, WriteFault, NoMemory}
use Rattle.lsp_serve.specs.Ends.{exit_at}
use Rattle.lsp_serve.specs.Said.{AreSaidTo, AreTaken, IsOpen, IsOpenBefore, SaysEach, all_bytes, reply_bytes, said_bytes}
use Rattle.lsp_serve.specs.Served.{AreRead, BeginsWith, Served, Streams}
use Rattle.lsp_serve.proofs.Saying.{fresh_before, replies_more, says_anew, says_more, says_same}
use Rattle.lsp_serve.specs.Turns.{Handles, SoFar, StopsTurn, TakesPart, TakesTurn}
use Rattle.lsp_read.specs.lsp_session.Conversation.{document_behind, last_published, later, stage_behind}
use Rattle.lsp_read.specs.lsp_session.Session.{PublishesNow, Published, Says, document_after, document_of, published}
use Rattle.lsp_read.specs.lsp_session.Stages.{stage_after}
use Rattle.lsp_read.specs.lsp_session.declared.session.Session.{Session}
use Rattle.lsp_read.specs.lsp_session.declared.stage.Stage.{Stage}
use Rattle.lsp_read.specs.lsp_session.declared.stage.Stage.TheVariants.{Fresh, Running, Down, Gone}
use Rattle.lsp_read.proofs.of_lsp_session.Conversing.{answered-more, document_behind-more, last_published-more, stage_behind-more, published_onward}
use Rattle.devices.specs.Parts.{AppendsPart}
use Rattle.devices.proofs.PartLaws.{part_after}

-- ---- one message more

bytes_more : (replies : List Reply) (said : Option Reply) → all_bytes (replies ++ option_to_list said) ≡ all_bytes replies ++ said_bytes said
bytes_more replies None = ap all_bytes (append-nil replies) ∙ sym (append-nil (all_bytes replies))
bytes_more replies (Some r) = flat_map-append reply_bytes replies (r ∷ []) ∙ ap (λ l. all_bytes replies ++ l) (append-nil (reply_bytes r))

read_more : (old mid new : Option (List ℕ)) (messages : List Message) (m : Message) → AreRead old messages mid → BeginsWith m mid new → AreRead old (messages ++ m ∷ []) new
unfolding AreRead
read_more old mid new [] m p q = (new, subst (λ (o : Option (List ℕ)). BeginsWith m o new) p q, refl)
read_more old mid new (x ∷ xs) m p q = (p.0, p.1, read_more p.0 mid new xs m p.2 q)

open_more : (stage : Stage) (messages : List Message) (m : Message) → IsOpenBefore stage messages → IsOpen (stage_behind stage messages) → IsOpenBefore stage (messages ++ m ∷ [])
unfolding IsOpenBefore stage_behind
open_more stage [] m p q = (q, tt)
open_more stage (x ∷ xs) m p q = (p.0, open_more (stage_after stage x) xs m p.1 q)

wrote_more : (a b c : Option (List ℕ)) (replies : List Reply) (said : Option Reply) → Appends a b (all_bytes replies) → Appends b c (said_bytes said)
    → Appends a c (all_bytes (replies ++ option_to_list said))
wrote_more a b c replies said p q = subst (Appends a c) (sym (bytes_more replies said)) (Appends-trans a b c (all_bytes replies) (said_bytes said) p q)

wrote_part : (a b c : Option (List ℕ)) (replies : List Reply) (said : Option Reply) → Appends a b (all_bytes replies) → AppendsPart b c (said_bytes said)
    → AppendsPart a c (all_bytes (replies ++ option_to_list said))
wrote_part a b c replies said p q = subst (AppendsPart a c) (sym (bytes_more replies said)) (part_after a b c (all_bytes replies) (said_bytes said) p q)

taken_more : {C : Type 0} (TakenAs : Stage → Message → Message → C → C → Type 0) (stage : Stage) (received messages : List Message) (m t : Message) (first mid last : C)
    → AreTaken TakenAs stage received messages first mid → TakenAs (stage_behind stage messages) m t mid last → AreTaken TakenAs stage (received ++ m ∷ []) (messages ++ t ∷ []) first last
unfolding AreTaken stage_behind
taken_more TakenAs stage [] [] m t first mid last h one = (last, subst (λ k. TakenAs stage m t k last) h one, refl)
taken_more TakenAs stage [] (y ∷ ys) m t first mid last h one = absurd h
taken_more TakenAs stage (x ∷ xs) [] m t first mid last h one = absurd h
taken_more TakenAs stage (x ∷ xs) (y ∷ ys) m t first mid last h one = (h.0, h.1, taken_more TakenAs (stage_after stage y) xs ys m t h.0 mid last h.2 one)

-- ---- before the session has begun

silent_more : (uri : List ℕ) (replies : List Reply) (said : Option Reply) → last_published uri replies ≡ None → published uri said ≡ None → last_published uri (replies ++ option_to_list said) ≡ None
unfolding later
silent_more uri replies None before now = ap (last_published uri) (append-nil replies) ∙ before
silent_more uri replies (Some r) before now = last_published-more uri replies r ∙ ap (λ t. later t (last_published uri replies)) now ∙ before

-- where nothing is published, it is the same for every checker
published_anew : (Old New : List ℕ → List Report → Type 0) (before now : Option Document) (said : Option Published) → said ≡ None → PublishesNow Old before now said → PublishesNow New before now said
published_anew Old New before now said none h = subst (PublishesNow New before now) (sym none) (subst (PublishesNow Old before now) none h)

-- the end of a session that is not open any more
gone : (stage : Stage) (end : End) → exit_at stage ≡ Some end → (in_order : Bool) × (stage ≡ Gone in_order) × (end ≡ Exited in_order)
gone Fresh end e = absurd cc
gone Running end e = absurd cc
gone Down end e = absurd cc
gone (Gone in_order) end e = let same : Exited in_order ≡ end = cc in (in_order, refl, sym same)

module _ {C : Type 0} (Shows : C → List ℕ → List Report → Type 0) (TakenAs : Stage → Message → Message → C → C → Type 0) where
  stage_more : (session new : Session C) (messages : List Message) (m : Message) (said : Option Reply) → session.stage ≡ stage_behind Fresh messages → (h : Handles Shows TakenAs session new m said)
      → new.stage ≡ stage_behind Fresh (messages ++ h.taken ∷ [])
  stage_more session new messages m said at h = h.stage ∙ ap (λ s. stage_after s h.taken) at ∙ sym (stage_behind-more Fresh messages h.taken)

  document_more : (session new : Session C) (messages : List Message) (m : Message) (said : Option Reply) (uri : List ℕ) → session.stage ≡ stage_behind Fresh messages
      → document_of uri session ≡ document_behind Fresh messages uri None → (h : Handles Shows TakenAs session new m said) → document_of uri new ≡ document_behind Fresh (messages ++ h.taken ∷ []) uri None
  document_more session new messages m said uri at before h =
      h.documents uri ∙ ap (document_after h.taken session.stage uri) before ∙ ap (λ s. document_after h.taken s uri (document_behind Fresh messages uri None)) at
      ∙ sym (document_behind-more Fresh messages h.taken uri None)

  -- what was said before, by the checker after a message
  said_anew : (session new : Session C) (messages : List Message) (replies : List Reply) → session.stage ≡ stage_behind Fresh messages → (new.checker ≡ session.checker) ⊎ (session.stage ≡ Fresh)
      → (session.stage ≡ Fresh → (uri : List ℕ) → last_published uri replies ≡ None) → AreSaidTo (Shows session.checker) messages replies → AreSaidTo (Shows new.checker) messages replies
  said_anew session new messages replies at (inl same) silent s = subst (λ k. AreSaidTo (Shows k) messages replies) (sym same) s
  said_anew session new messages replies at (inr fresh) silent s = record {
    each = s.each;
    says = says_anew (Shows session.checker) (Shows new.checker) Fresh (λ uri. None) messages s.each (sym at ∙ fresh) s.says;
    written = s.written;
    answered = s.answered;
    published = λ uri. published_anew (Shows session.checker) (Shows new.checker) None (document_behind Fresh messages uri None) (last_published uri replies) (silent fresh uri) (s.published uri);
  }

  said_more : (session new : Session C) (messages : List Message) (replies : List Reply) (m : Message) (said : Option Reply) (h : Handles Shows TakenAs session new m said)
      → session.stage ≡ stage_behind Fresh messages → (session.stage ≡ Fresh → (uri : List ℕ) → last_published uri replies ≡ None)
      → ((uri : List ℕ) → document_of uri session ≡ document_behind Fresh messages uri None) → ((uri : List ℕ) → document_of uri new ≡ document_behind Fresh (messages ++ h.taken ∷ []) uri None)
      → AreSaidTo (Shows session.checker) messages replies → AreSaidTo (Shows new.checker) (messages ++ h.taken ∷ []) (replies ++ option_to_list said)
  said_more session new messages replies m said h at silent before now all =
      let s = said_anew session new messages replies at h.kept silent all in
      let held : List ℕ → Option Document = λ uri. document_behind Fresh messages uri None in
      let of_held = says_same (Shows new.checker) (λ uri. document_of uri session) held before session.stage h.taken said h.says in
      record {
        each = s.each ++ said ∷ [];
        says = says_more (Shows new.checker) Fresh (λ uri. None) messages s.each h.taken said s.says (subst (λ stage. Says (Shows new.checker) stage held h.taken said) at of_held);
        written = replies_more s.each said replies s.written;
        answered = answered-more messages replies h.taken said s.answered h.answered;
        published = λ uri.
            let old = document_behind Fresh messages uri None in
            let last = document_behind Fresh (messages ++ h.taken ∷ []) uri None in
            let from_old = subst (λ o. PublishesNow (Shows new.checker) o (document_of uri new) (published uri said)) (before uri) (h.published uri) in
            let publishes = subst (λ n. PublishesNow (Shows new.checker) old n (published uri said)) (now uri) from_old in
            published_onward (Shows new.checker) None old last uri replies said (replies ++ option_to_list said) refl (s.published uri) publishes;
      }

  -- ---- between turns

  pub begun : (session : Session C) (input : Option (List ℕ)) (old : Streams) → session.stage ≡ Fresh → ((uri : List ℕ) → document_of uri session ≡ None)
      → SoFar Shows TakenAs session.checker session input input old old
  unfolding AreRead AreTaken IsOpenBefore SaysEach stage_behind document_behind last_published
  begun session input old fresh none = record {
    received = [];
    messages = [];
    replies = [];
    read = refl;
    taken = refl;
    open_before = tt;
    stage = fresh;
    documents = none;
    silent = λ fresh uri. refl;
    said = record { each = []; says = tt; written = refl; answered = refl; published = λ uri. refl };
    wrote = Appends-nil old.held;
    read_later = omega arith;
    write_later = omega arith;
  }

  takes_more : (first : C) (session new : Session C) (input from : Option (List ℕ)) (old before : Streams) (s : SoFar Shows TakenAs first session input from old before) (m : Message) (said : Option Reply)
      (h : Handles Shows TakenAs session new m said) → AreTaken TakenAs Fresh (s.received ++ m ∷ []) (s.messages ++ h.taken ∷ []) first new.checker
  takes_more first session new input from old before s m said h =
      taken_more TakenAs Fresh s.received s.messages m h.taken first session.checker new.checker s.taken
      (subst (λ stage. TakenAs stage m h.taken session.checker new.checker) s.stage h.takes)

  pub one_turn : (first : C) (session new : Session C) (input from to : Option (List ℕ)) (old before now : Streams) → SoFar Shows TakenAs first session input from old before → IsOpen session.stage
      → TakesTurn Shows TakenAs session new from to before now → before.read_faults ≤ now.read_faults → before.write_faults ≤ now.write_faults → SoFar Shows TakenAs first new input to old now
  one_turn first session new input from to old before now s going t reads writes =
      let h = t.responds.handles in
      let said = t.responds.said in
      let after : (uri : List ℕ) → document_of uri new ≡ document_behind Fresh (s.messages ++ h.taken ∷ []) uri None = λ uri. document_more session new s.messages t.message said uri s.stage (s.documents uri) h in
      record {
        received = s.received ++ t.message ∷ [];
        messages = s.messages ++ h.taken ∷ [];
        replies = s.replies ++ option_to_list said;
        read = read_more input from to s.received t.message s.read t.read;
        taken = takes_more first session new input from old before s t.message said h;
        open_before = open_more Fresh s.messages h.taken s.open_before (subst IsOpen s.stage going);
        stage = stage_more session new s.messages t.message said s.stage h;
        documents = after;
        silent = λ fresh uri.
            let not_begun = fresh_before session.stage h.taken (sym h.stage ∙ fresh) in
            silent_more uri s.replies said (s.silent not_begun uri) (h.silent not_begun uri);
        said = said_more session new s.messages s.replies t.message said h s.stage s.silent s.documents after s.said;
        wrote = wrote_more old.held before.held now.held s.replies said s.wrote t.responds.wrote;
        read_later = omega (arith, s.read_later, reads);
        write_later = omega (arith, s.write_later, writes);
      }

  -- ---- the end

  ends_in_write : (first : C) (session new : Session C) (input from to : Option (List ℕ)) (old before now : Streams) → SoFar Shows TakenAs first session input from old before → IsOpen session.stage
      → TakesPart Shows TakenAs session new from to before now → Served Shows TakenAs first input old now WriteFault
  ends_in_write first session new input from to old before now s going t =
      let h = t.responds.handles in
      let said = t.responds.said in
      let after : (uri : List ℕ) → document_of uri new ≡ document_behind Fresh (s.messages ++ h.taken ∷ []) uri None = λ uri. document_more session new s.messages t.message said uri s.stage (s.documents uri) h in
      record {
        last = new.checker;
        received = s.received ++ t.message ∷ [];
        messages = s.messages ++ h.taken ∷ [];
        replies = s.replies ++ option_to_list said;
        rest = to;
        read = read_more input from to s.received t.message s.read t.read;
        taken = takes_more first session new input from old before s t.message said h;
        open_before = open_more Fresh s.messages h.taken s.open_before (subst IsOpen s.stage going);
        said = said_more session new s.messages s.replies t.message said h s.stage s.silent s.documents after s.said;
        wrote = wrote_part old.held before.held now.held s.replies said s.wrote t.responds.part;
        cause = omega (arith, s.write_later, t.responds.cause);
      }

  pub ends : (first : C) (session new : Session C) (input from to : Option (List ℕ)) (old before now : Streams) (end : End) → SoFar Shows TakenAs first session input from old before → IsOpen session.stage
      → StopsTurn end Shows TakenAs session new from to before now → Served Shows TakenAs first input old now end
  ends first session new input from to old before now (Exited in_order) s going t = absurd t
  ends first session new input from to old before now EndOfInput s going t = record {
    last = session.checker;
    received = s.received;
    messages = s.messages;
    replies = s.replies;
    rest = from;
    read = s.read;
    taken = s.taken;
    open_before = s.open_before;
    said = s.said;
    wrote = Appends-kept _ _ _ _ s.wrote t.1;
    cause = (subst IsOpen s.stage going, t.0);
  }
  ends first session new input from to old before now (BadFrame fault) s going t = record {
    last = session.checker;
    received = s.received;
    messages = s.messages;
    replies = s.replies;
    rest = from;
    read = s.read;
    taken = s.taken;
    open_before = s.open_before;
    said = s.said;
    wrote = Appends-kept _ _ _ _ s.wrote t.1;
    cause = (subst IsOpen s.stage going, t.0);
  }
  ends first session new input from to old before now CutOff s going t = record {
    last = session.checker;
    received = s.received;
    messages = s.messages;
    replies = s.replies;
    rest = from;
    read = s.read;
    taken = s.taken;
    open_before = s.open_before;
    said = s.said;
    wrote = Appends-kept _ _ _ _ s.wrote t.1;
    cause = (subst IsOpen s.stage going, t.0);
  }
  ends first session new input from to old before now ReadFault s going t = record {
    last = session.checker;
    received = s.received;
    messages = s.messages;
    replies = s.replies;
    rest = from;
    read = s.read;
    taken = s.taken;
    open_before = s.open_before;
    said = s.said;
    wrote = Appends-kept _ _ _ _ s.wrote t.1;
    cause = (subst IsOpen s.stage going, omega (arith, s.read_later, t.0));
  }
  ends first session new input from to old before now WriteFault s going t = ends_in_write first session new input from to old before now s going t
  ends first session new input from to old before now NoMemory s going t = record {
    last = session.checker;
    received = s.received;
    messages = s.messages;
    replies = s.replies;
    rest = from;
    read = s.read;
    taken = s.taken;
    open_before = s.open_before;
    said = s.said;
    wrote = Appends-kept _ _ _ _ s.wrote t;
    cause = tt;
  }

  pub exits : (first : C) (session : Session C) (input rest : Option (List ℕ)) (old now : Streams) (end : End) → SoFar Shows TakenAs first session input rest old now → exit_at session.stage ≡ Some end
      → Served Shows TakenAs first input old now end
  exits first session input rest old now end s e =
      let left = gone session.stage end e in
      subst (Served Shows TakenAs first input old now) (sym left.2) (record {
        last = session.checker;
        received = s.received;
        messages = s.messages;
        replies = s.replies;
        rest = rest;
        read = s.read;
        taken = s.taken;
        open_before = s.open_before;
        said = s.said;
        wrote = s.wrote;
        cause = sym s.stage ∙ left.1;
      })

  -- no turn is left to count
  pub worn_out : (first : C) (session : Session C) (input rest : Option (List ℕ)) (old now : Streams) → SoFar Shows TakenAs first session input rest old now → Served Shows TakenAs first input old now NoMemory
  worn_out first session input rest old now s = record {
    last = session.checker;
    received = s.received;
    messages = s.messages;
    replies = s.replies;
    rest = rest;
    read = s.read;
    taken = s.taken;
    open_before = s.open_before;
    said = s.said;
    wrote = s.wrote;
    cause = tt;
  }

-- nothing was done
pub nothing_done : {C : Type 0} (Shows : C → List ℕ → List Report → Type 0) (TakenAs : Stage → Message → Message → C → C → Type 0) (first : C) (input : Option (List ℕ)) (old : Streams) → Served Shows TakenAs first input old old NoMemory
unfolding AreRead AreTaken IsOpenBefore SaysEach document_behind last_published
nothing_done Shows TakenAs first input old = record {
  last = first;
  received = [];
  messages = [];
  replies = [];
  rest = input;
  read = refl;
  taken = refl;
  open_before = tt;
  said = record { each = []; says = tt; written = refl; answered = refl; published = λ uri. refl };
  wrote = Appends-nil old.held;
  cause = tt;
}
