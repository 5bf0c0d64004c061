use Rattle.std.proofs.Common.{◌≤◌}
use Rattle.std.specs.Io.KnownBytes.{Consumes}
use Rattle.lsp_serve.specs.Reading.{coming}
use Rattle.lsp_serve.proofs.reader.Frames.next.Given as goal

abbrev pub invariant-reading : goal.invariant-reading
invariant-reading g l = record {
  kept : Consumes (coming l.fn.self (g.S.Source.left l.fn.source)) (g.S.Source.left l.source) l.self;
  later : g.S.Source.faults l.fn.source ≤ g.S.Source.faults l.source;
}
