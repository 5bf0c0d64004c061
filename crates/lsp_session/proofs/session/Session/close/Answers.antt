use Rattle.std.proofs.Common.{None, refl, bytes_eq}
use Rattle.lsp_session.proofs.Publishing.{document_set, publishes_set}
use Rattle.lsp_session.proofs.session.Session.close.Goals as goal

pub returns-clause-documents : goal.returns-clause-documents
returns-clause-documents g c =
    document_set c.as_str.result.now c.args.uri c.args.self.now.documents c.remove-closed.new.self _ c.remove-closed.ensures.updates c.as_str.ensures

pub returns-clause-published : goal.returns-clause-published
returns-clause-published g c = λ name.
    let set = document_set c.as_str.result.now c.args.uri c.args.self.now.documents c.remove-closed.new.self _ c.remove-closed.ensures.updates c.as_str.ensures name in
    publishes_set (g.C.Checker.shows c.args.self.now.checker) (bytes_eq c.args.uri name) _ _ None _ set (refl, c.new.ensures.items)
