use Rattle.lsp_serve.specs.Reading.{coming}
use Rattle.lsp_serve.specs.Said.{IsOpen}
use Rattle.lsp_serve.specs.Turns.{SoFar}
use Rattle.lsp_read.specs.lsp_session.Entry.{IsTakenAs}
use Rattle.lsp_serve.proofs.serving.serve_all.Given as goal

abbrev pub invariant-serving : goal.invariant-serving
invariant-serving g l = record {
  going : IsOpen l.session.stage;
  so_far : SoFar g.C.Checker.shows (IsTakenAs g.C.Enter.enters g.C.Enter.refuses) l.fn.session.checker l.session
      (coming l.fn.frames (g.S.Source.left l.fn.source)) (coming l.frames (g.S.Source.left l.source))
      (record { read_faults = g.S.Source.faults l.fn.source; held = g.K.Sink.held l.fn.out; write_faults = g.K.Sink.faults l.fn.out })
      (record { read_faults = g.S.Source.faults l.source; held = g.K.Sink.held l.out; write_faults = g.K.Sink.faults l.out });
}
