use Rattle.std.proofs.Common.{◌∙◌, Some, refl, string_bytes, bytes_eq, subst}
use Rattle.lsp_session.proofs.Publishing.{document_set, publishes_set}
use Rattle.lsp_session.proofs.session.Session.renew.Goals as goal

pub returns-in-Ok-clause-documents : goal.returns-in-Ok-clause-documents
returns-in-Ok-clause-documents g c =
    document_set (string_bytes c.in_ok-name.name) c.args.uri c.args.self.now.documents c.insert.new.self _ c.in-Ok.ensures.updates (c.in_ok-name.ensures.ok ∙ c.as_str-2.ensures)

pub returns-in-Ok-clause-published : goal.returns-in-Ok-clause-published
returns-in-Ok-clause-published g c = λ name.
    let set = document_set (string_bytes c.in_ok-name.name) c.args.uri c.args.self.now.documents c.insert.new.self _ c.in-Ok.ensures.updates (c.in_ok-name.ensures.ok ∙ c.as_str-2.ensures) name in
    let Shows = g.C.Checker.shows c.args.self.now.checker in
    let shown = subst (λ t. Shows t c.in_ok-reports.reports.items) c.as_str.ensures c.in_ok-reports.ensures.found in
    publishes_set Shows (bytes_eq c.args.uri name) _ _ (Some c.args.document) _ set (refl, shown)
