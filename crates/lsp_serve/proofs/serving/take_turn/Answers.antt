use Rattle.std.proofs.Common.{refl, subst, sym}
use Rattle.std.proofs.KnownBytes.{Keeps-refl}
use Rattle.std.proofs.lemmas.Result.{IfErr-weaker}
use Rattle.lsp_serve.specs.Reading.{coming}
use Rattle.lsp_serve.specs.Served.{Streams}
use Rattle.lsp_serve.specs.Turns.{StopsTurn}
use Rattle.lsp_serve.proofs.Stopping.{begins, ended, not_read, not_turned, on_ok, turned}
use Rattle.lsp_read.specs.lsp_session.Entry.{IsTakenAs}
use Rattle.lsp_serve.proofs.serving.take_turn.Goals as goal

pub returns-in-Ok-Some-clause-done : goal.returns-in-Ok-Some-clause-done
returns-in-Ok-Some-clause-done g c =
    let shows = g.C.Checker.shows in
    let takes = IsTakenAs g.C.Enter.enters g.C.Enter.refuses in
    let from = coming c.args.frames.now (g.S.Source.left c.args.source.now) in
    let left = g.S.Source.left c.next.new.source in
    let unread = c.next.new.self in
    let before : Streams = record { read_faults = g.S.Source.faults c.args.source.now; held = g.K.Sink.held c.args.out.now; write_faults = g.K.Sink.faults c.args.out.now } in
    let now : Streams = record { read_faults = g.S.Source.faults c.next.new.source; held = g.K.Sink.held c.respond.new.out; write_faults = g.K.Sink.faults c.respond.new.out } in
    let content = c.in-Ok-Some.content in
    let read = begins c.in-Ok-Some.field-0 content from unread left c.in-Ok-Some.field-0-is c.in-Ok-Some.ensures.next in
    let to = coming unread left in
    on_ok c.respond.result _ _
    (λ r. turned shows takes c.args.session.now c.respond.new.session content.items c.as_slice.result.now from to before now c.as_slice.ensures.value read r)
    c.respond.ensures.done

pub returns-in-Ok-Some-clause-stop : goal.returns-in-Ok-Some-clause-stop
returns-in-Ok-Some-clause-stop g c =
    let shows = g.C.Checker.shows in
    let takes = IsTakenAs g.C.Enter.enters g.C.Enter.refuses in
    let from = coming c.args.frames.now (g.S.Source.left c.args.source.now) in
    let left = g.S.Source.left c.next.new.source in
    let unread = c.next.new.self in
    let before : Streams = record { read_faults = g.S.Source.faults c.args.source.now; held = g.K.Sink.held c.args.out.now; write_faults = g.K.Sink.faults c.args.out.now } in
    let now : Streams = record { read_faults = g.S.Source.faults c.next.new.source; held = g.K.Sink.held c.respond.new.out; write_faults = g.K.Sink.faults c.respond.new.out } in
    let content = c.in-Ok-Some.content in
    let read = begins c.in-Ok-Some.field-0 content from unread left c.in-Ok-Some.field-0-is c.in-Ok-Some.ensures.next in
    let to = coming unread left in
    IfErr-weaker c.respond.result _ _
    (λ end s. not_turned shows takes c.args.session.now c.respond.new.session content.items c.as_slice.result.now from to before now end c.as_slice.ensures.value read s)
    c.respond.ensures.stop

pub returns-in-Ok-None-clause-stop : goal.returns-in-Ok-None-clause-stop
returns-in-Ok-None-clause-stop g c =
    let from = coming c.args.frames.now (g.S.Source.left c.args.source.now) in
    (ended c.in-Ok-None.field-0 from c.next.new.self (g.S.Source.left c.next.new.source) c.in-Ok-None.field-0-is c.in-Ok-None.ensures.next, Keeps-refl (g.K.Sink.held c.args.out.now))

pub returns-in-Err-clause-stop : goal.returns-in-Err-clause-stop
returns-in-Err-clause-stop g c =
    let shows = g.C.Checker.shows in
    let takes = IsTakenAs g.C.Enter.enters g.C.Enter.refuses in
    let from = coming c.args.frames.now (g.S.Source.left c.args.source.now) in
    let left = g.S.Source.left c.next.new.source in
    let unread = c.next.new.self in
    let before : Streams = record { read_faults = g.S.Source.faults c.args.source.now; held = g.K.Sink.held c.args.out.now; write_faults = g.K.Sink.faults c.args.out.now } in
    let now : Streams = record { read_faults = g.S.Source.faults c.next.new.source; held = g.K.Sink.held c.args.out.now; write_faults = g.K.Sink.faults c.args.out.now } in
    subst (λ end. StopsTurn end shows takes c.args.session.now c.args.session.now from (coming unread left) before now) (sym c.end_of.ensures)
    (not_read shows takes c.args.session.now c.args.session.now from unread left before now c.in-Err.error refl c.in-Err.ensures.stopped)
