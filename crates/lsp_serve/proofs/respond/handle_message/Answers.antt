use Rattle.std.proofs.Common.{subst}
use Rattle.lsp_read.specs.lsp_session.declared.message.Message.{Message}
use Rattle.lsp_serve.specs.Turns.{Handles}
use Rattle.lsp_serve.proofs.Handling.{handled_as}
use Rattle.lsp_read.specs.lsp_session.Entry.{IsTakenAs}
use Rattle.lsp_serve.proofs.respond.handle_message.Goals as goal

pub returns : goal.returns
returns g c =
    let take = c.in_ok-message.ensures in
    let step = c.in_ok-said.ensures in
    let shows = g.C.Checker.shows in
    let enters = g.C.Enter.enters in
    let refuses = g.C.Enter.refuses in
    subst (λ (m : Message). Handles shows (IsTakenAs enters refuses) c.args.session.now c.step.new.self m c.in_ok-said.said) c.in_ok-received.ensures
    (handled_as enters refuses shows c.args.session.now c.take.new.self c.step.new.self c.in_ok-received.received c.in_ok-message.message c.in_ok-said.said
    take.taken take.stage take.documents step.checker step.stage step.documents step.published step.answered step.silent step.says)
