use Rattle.std.proofs.Common.{◌≡◌, ◌∙◌, [], ◌++◌, None, option_to_list, ap, arith, refl, rules, sym, subst, append-nil}
use Rattle.std.proofs.lemmas.Grind.{common_steps}
use Rattle.std.specs.Vec.Iter.{into_iter_items}
use Rattle.lsp_session.specs.Conversation.{all_answered, all_asked, last_published, stage_behind, document_behind}
use Rattle.lsp_session.specs.Session.{document_of, published, PublishesNow}
use Rattle.lsp_session.proofs.Conversing.{answered_onward, stage_at_end, stage_onward, document_at_end, document_onward, published_onward}
use Rattle.lsp_session.proofs.conversation.converse.Goals as goal

pub loop-message-init : goal.loop-message-init
unfolding last_published
loop-message-init g c =
    let given = c.into_iter-message-iterator.ensures.into_iter_gives.0 in
    record {
      can = tt;
      finite = tt;
      checker = refl;
      stage = ap (stage_behind c.args.session.now.stage) given;
      documents = λ uri. ap (λ l. document_behind c.args.session.now.stage l uri (document_of uri c.args.session.now)) given;
      answered = ap (λ l. all_answered l ++ all_asked (into_iter_items c.into_iter-message-iterator.result)) c.new-all.ensures.items ∙ ap all_asked given;
      published = λ uri. rw c.new-all.ensures.items refl;
    }

pub loop-message-preserved-in-Continue-branch-3 : goal.loop-message-preserved-in-Continue-branch-3
loop-message-preserved-in-Continue-branch-3 g c =
    let before = c.loop-message.invariant in
    let step = c.in_ok-reply.ensures in
    let first = c.in-Some.ensures.steps.0 in
    let said = c.in_ok-reply.field-0 in
    let grown = c.in_ok-push.ensures.items ∙ ap (λ s. c.loop-message.all.items ++ option_to_list s) (sym c.in-Some-2.is) in
    record {
      can = tt;
      finite = tt;
      checker = step.checker ∙ before.checker;
      stage = stage_onward c.loop-message.session.stage _ _ c.in-Some.message _ _ step.stage first before.stage;
      documents = λ uri. document_onward c.loop-message.session.stage _ c.in-Some.message _ _ uri (document_of uri c.loop-message.session) _ _ step.stage (step.documents uri) first (before.documents uri);
      answered = answered_onward c.loop-message.all.items said _ c.in-Some.message _ _ _ grown step.answered first before.answered;
      published = λ uri.
          let publishes = subst (λ k. PublishesNow (g.C.Checker.shows k) (document_of uri c.loop-message.session) (document_of uri c.step.new.self) (published uri said)) before.checker (step.published uri) in
          published_onward (g.C.Checker.shows c.args.session.now.checker) _ (document_of uri c.loop-message.session) _ uri c.loop-message.all.items said _ grown (before.published uri) publishes;
    }

pub loop-message-preserved : goal.loop-message-preserved
loop-message-preserved g c =
    let before = c.loop-message.invariant in
    let step = c.in_ok-reply.ensures in
    let first = c.in-Some.ensures.steps.0 in
    let said = c.in_ok-reply.field-0 in
    let none : said ≡ None = search rules in
    let grown = sym (append-nil c.loop-message.all.items) ∙ ap (λ s. c.loop-message.all.items ++ option_to_list s) (sym none) in
    record {
      can = tt;
      finite = tt;
      checker = step.checker ∙ before.checker;
      stage = stage_onward c.loop-message.session.stage _ _ c.in-Some.message _ _ step.stage first before.stage;
      documents = λ uri. document_onward c.loop-message.session.stage _ c.in-Some.message _ _ uri (document_of uri c.loop-message.session) _ _ step.stage (step.documents uri) first (before.documents uri);
      answered = answered_onward c.loop-message.all.items said _ c.in-Some.message _ _ _ grown step.answered first before.answered;
      published = λ uri.
          let publishes = subst (λ k. PublishesNow (g.C.Checker.shows k) (document_of uri c.loop-message.session) (document_of uri c.step.new.self) (published uri said)) before.checker (step.published uri) in
          published_onward (g.C.Checker.shows c.args.session.now.checker) _ (document_of uri c.loop-message.session) _ uri c.loop-message.all.items said _ grown (before.published uri) publishes;
    }

pub returns-clause-stage : goal.returns-clause-stage
returns-clause-stage g c =
    let none : into_iter_items c.loop-message.message-iterator ≡ [] = grind (arith, common_steps, c.in-None.ensures.steps.0) in
    stage_at_end _ _ _ none c.loop-message.invariant.stage

pub returns-clause-documents : goal.returns-clause-documents
returns-clause-documents g c = λ uri.
    let none : into_iter_items c.loop-message.message-iterator ≡ [] = grind (arith, common_steps, c.in-None.ensures.steps.0) in
    document_at_end _ _ uri _ _ none (c.loop-message.invariant.documents uri)
