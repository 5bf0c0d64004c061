-- A message that a session takes and steps on.
use Rattle.std.proofs.Common.{◌≡◌, ◌∙◌, ◌⊎◌, ap, inl, inr, refl, subst, sym, ℕ, List, Option, None}
use Rattle.lsp_read.specs.lsp_session.declared.message.Message.{Message}
use Rattle.lsp_read.specs.lsp_session.declared.message.Message.TheVariants.{Request, Notice, Response, Unreadable}
use Rattle.lsp_read.specs.lsp_session.declared.reply.Reply.{Reply}
use Rattle.lsp_read.specs.lsp_session.declared.report.Report.{Report}
use Rattle.lsp_serve.specs.Turns.{Handles}
use Rattle.lsp_serve.proofs.Saying.{says_same}
use Rattle.lsp_read.specs.lsp_session.Entry.{IsTakenAs}
use Rattle.lsp_read.specs.lsp_session.Session.{PublishesNow, Says, answered, asked, document_after, document_of, published}
use Rattle.lsp_read.specs.lsp_session.Stages.{stage_after}
use Rattle.lsp_read.specs.lsp_session.declared.session.Session.{Session}
use Rattle.lsp_read.specs.lsp_session.declared.stage.Stage.{Stage}
use Rattle.lsp_read.specs.lsp_session.declared.stage.Stage.TheVariants.{Fresh, Running, Down, Gone}

module _ {C : Type 0} (Enters : C → Option (List ℕ) → C → Type 0) (Refuses : C → Option (List ℕ) → List ℕ → C → Type 0) where
  kept_at_work : (stage : Stage) (m t : Message) (old new : C) → IsTakenAs Enters Refuses stage m t old new → (new ≡ old) ⊎ (stage ≡ Fresh)
  kept_at_work Fresh m t old new h = inr refl
  kept_at_work Running (Request id c) (Request name d) old new h = inl h.1.1
  kept_at_work Running (Request id c) (Notice n) old new h = absurd h
  kept_at_work Running (Request id c) Response old new h = absurd h
  kept_at_work Running (Request id c) (Unreadable why) old new h = absurd h
  kept_at_work Running (Notice n) t old new h = inl h.1
  kept_at_work Running Response t old new h = inl h.1
  kept_at_work Running (Unreadable why) t old new h = inl h.1
  kept_at_work Down (Request id c) (Request name d) old new h = inl h.1.1
  kept_at_work Down (Request id c) (Notice n) old new h = absurd h
  kept_at_work Down (Request id c) Response old new h = absurd h
  kept_at_work Down (Request id c) (Unreadable why) old new h = absurd h
  kept_at_work Down (Notice n) t old new h = inl h.1
  kept_at_work Down Response t old new h = inl h.1
  kept_at_work Down (Unreadable why) t old new h = inl h.1
  kept_at_work (Gone b) (Request id c) (Request name d) old new h = inl h.1.1
  kept_at_work (Gone b) (Request id c) (Notice n) old new h = absurd h
  kept_at_work (Gone b) (Request id c) Response old new h = absurd h
  kept_at_work (Gone b) (Request id c) (Unreadable why) old new h = absurd h
  kept_at_work (Gone b) (Notice n) t old new h = inl h.1
  kept_at_work (Gone b) Response t old new h = inl h.1
  kept_at_work (Gone b) (Unreadable why) t old new h = inl h.1

  pub handled_as : (Shows : C → List ℕ → List Report → Type 0) (old mid new : Session C) (m t : Message) (said : Option Reply) → IsTakenAs Enters Refuses old.stage m t old.checker mid.checker
      → mid.stage ≡ old.stage → ((uri : List ℕ) → document_of uri mid ≡ document_of uri old) → new.checker ≡ mid.checker → new.stage ≡ stage_after mid.stage t
      → ((uri : List ℕ) → document_of uri new ≡ document_after t mid.stage uri (document_of uri mid))
      → ((uri : List ℕ) → PublishesNow (Shows mid.checker) (document_of uri mid) (document_of uri new) (published uri said)) → answered said ≡ asked t
      → (mid.stage ≡ Fresh → (uri : List ℕ) → published uri said ≡ None)
      → Says (Shows mid.checker) mid.stage (λ uri. document_of uri mid) t said → Handles Shows (IsTakenAs Enters Refuses) old new m said
  handled_as Shows old mid new m t said takes at same kept stage documents publishes answers silent says =
      let took = subst (λ k. IsTakenAs Enters Refuses old.stage m t old.checker k) (sym kept) takes in
      record {
        taken = t;
        takes = took;
        kept = kept_at_work old.stage m t old.checker new.checker took;
        stage = stage ∙ ap (λ s. stage_after s t) at;
        documents = λ uri. documents uri ∙ ap (λ s. document_after t s uri (document_of uri mid)) at ∙ ap (document_after t old.stage uri) (same uri);
        silent = λ fresh. silent (at ∙ fresh);
        published = λ uri. subst (λ k. PublishesNow (Shows k) (document_of uri old) (document_of uri new) (published uri said)) (sym kept)
            (subst (λ o. PublishesNow (Shows mid.checker) o (document_of uri new) (published uri said)) (same uri) (publishes uri));
        answered = answers;
        says =
            let of_old = says_same (Shows mid.checker) (λ uri. document_of uri mid) (λ uri. document_of uri old) same mid.stage t said says in
            let of_new = subst (λ k. Says (Shows k) mid.stage (λ uri. document_of uri old) t said) (sym kept) of_old in
            subst (λ s. Says (Shows new.checker) s (λ uri. document_of uri old) t said) at of_new;
      }
