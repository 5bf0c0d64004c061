use Rattle.std.proofs.lemmas.Result.{IfErr-weaker}
use Rattle.lsp_read.specs.Message.{message_of}
use Rattle.lsp_serve.proofs.Stopping.{not_said, on_ok}
use Rattle.lsp_read.specs.lsp_session.Entry.{IsTakenAs}
use Rattle.lsp_serve.proofs.respond.respond.Goals as goal

pub returns-in-Ok-clause-done : goal.returns-in-Ok-clause-done
returns-in-Ok-clause-done g c =
    on_ok c.write_said.result _ _ (λ wrote. record { said = c.in-Ok.said; handles = c.in-Ok.ensures; wrote = wrote }) c.write_said.ensures.whole

pub returns-in-Ok-clause-stop : goal.returns-in-Ok-clause-stop
returns-in-Ok-clause-stop g c =
    IfErr-weaker c.write_said.result _ _
    (λ end s. not_said g.C.Checker.shows (IsTakenAs g.C.Enter.enters g.C.Enter.refuses) c.args.session.now c.handle_message.new.session (message_of c.args.content.now) c.in-Ok.said (g.K.Sink.held c.args.out.now) (g.K.Sink.held c.write_said.new.out) (g.K.Sink.faults c.args.out.now) (g.K.Sink.faults c.write_said.new.out) end c.in-Ok.ensures s)
    c.write_said.ensures.stop
