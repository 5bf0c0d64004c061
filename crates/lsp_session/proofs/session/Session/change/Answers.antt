use Rattle.std.proofs.Common.{◌≡◌, ◌∙◌, List, ℕ, None, Some, is_some, subst, sym, true}
use Rattle.std.proofs.lemmas.Result.{IfOk-weaker}
use Rattle.lsp_session.specs.Session.{IsPublication, document_of}
use Rattle.lsp_session.proofs.Publishing.{where_some}
use Rattle.lsp_session.proofs.session.Session.change.Goals as goal

pub returns-then-contains_key-clause-says : goal.returns-then-contains_key-clause-says
returns-then-contains_key-clause-says g c =
    let session = c.args.self.now in
    let Shows = g.C.Checker.shows session.checker in
    let found : is_some (document_of c.as_str.result.now session) ≡ true = sym c.contains_key.ensures ∙ c.if-contains_key.true in
    let is_open : is_some (document_of c.args.uri session) ≡ true = subst (λ (key : List ℕ). is_some (document_of key session) ≡ true) c.as_str.ensures found in
    IfOk-weaker c.renew.result _ _ (λ said p. where_some (document_of c.args.uri session) (said ≡ None) (IsPublication Shows c.args.uri (Some c.args.document) said) is_open p) c.renew.ensures.says
