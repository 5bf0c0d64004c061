use Rattle.std.proofs.Common.{List, Option, ap, subst, ◌∙◌, ℕ}
use Rattle.std.proofs.KnownBytes.{prepend_known-nil}
use Rattle.lsp_serve.specs.Reading.{coming}
use Rattle.lsp_serve.specs.Served.{Served, Streams}
use Rattle.lsp_serve.proofs.Turning.{nothing_done}
use Rattle.lsp_read.specs.lsp_session.Entry.{IsTakenAs}
use Rattle.lsp_serve.proofs.serving.serve.Goals as goal

pub returns-in-Ok : goal.returns-in-Ok
returns-in-Ok g c =
    let left = g.S.Source.left c.args.source.now in
    let old : Streams = record { read_faults = g.S.Source.faults c.args.source.now; held = g.K.Sink.held c.args.out.now; write_faults = g.K.Sink.faults c.args.out.now } in
    let new : Streams = record { read_faults = g.S.Source.faults c.serve_all.new.source; held = g.K.Sink.held c.serve_all.new.out; write_faults = g.K.Sink.faults c.serve_all.new.out } in
    let fresh = ap (λ (u : List ℕ). coming u left) c.in-Ok.ensures ∙ prepend_known-nil left in
    let takes = IsTakenAs g.C.Enter.enters g.C.Enter.refuses in
    subst (λ (i : Option (List ℕ)). Served g.C.Checker.shows takes c.args.checker i old new c.serve_all.result) fresh
    (subst (λ k. Served g.C.Checker.shows takes k (coming c.in-Ok.frames left) old new c.serve_all.result) c.new-session.ensures.checker c.serve_all.ensures)

pub returns : goal.returns
returns g c = nothing_done g.C.Checker.shows (IsTakenAs g.C.Enter.enters g.C.Enter.refuses) c.args.checker (g.S.Source.left c.args.source.now)
    (record { read_faults = g.S.Source.faults c.args.source.now; held = g.K.Sink.held c.args.out.now; write_faults = g.K.Sink.faults c.args.out.now })
