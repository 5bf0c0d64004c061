use Rattle.std.proofs.Common.{◌≡◌, ◌++◌, ℕ, List}
use Rattle.std.specs.Vec.Iter.{into_iter_items}
use Rattle.lsp_session.specs.Conversation.{all_answered, all_asked, last_published, stage_behind, document_behind}
use Rattle.lsp_session.specs.Session.{document_of, PublishesNow}
use Rattle.lsp_session.proofs.conversation.converse.Given as goal

-- what the messages that are left will do to the session ends where all messages would have ended
abbrev pub invariant-loop-message : goal.invariant-loop-message
invariant-loop-message g l = record {
  can : (goal.iterator-loop-message g).can_next l.message-iterator;
  finite : (goal.iterator-loop-message g).is_finite l.message-iterator;
  checker : l.session.checker ≡ l.fn.session.checker;
  stage : stage_behind l.session.stage (into_iter_items l.message-iterator) ≡ stage_behind l.fn.session.stage l.fn.messages.items;
  documents : (uri : List ℕ) → document_behind l.session.stage (into_iter_items l.message-iterator) uri (document_of uri l.session)
      ≡ document_behind l.fn.session.stage l.fn.messages.items uri (document_of uri l.fn.session);
  answered : all_answered l.all.items ++ all_asked (into_iter_items l.message-iterator) ≡ all_asked l.fn.messages.items;
  published : (uri : List ℕ) → PublishesNow (g.C.Checker.shows l.fn.session.checker) (document_of uri l.fn.session) (document_of uri l.session) (last_published uri l.all.items);
}
