use Rattle.std.proofs.Common.{◌<◌, ◌≤◌, ◌^◌, length}
use Rattle.std.specs.Io.KnownBytes.{Consumes}
use Rattle.devices.proofs.whole.read_through.Given as goal

abbrev pub invariant-reading : goal.invariant-reading
invariant-reading g l = record {
  taken : Consumes (g.S.Source.left l.fn.source) (g.S.Source.left l.source) l.input.items;
  turns : l._turn ≤ length l.input.items;
  short : length l.input.items < 2 ^ 32;
  later : g.S.Source.faults l.fn.source ≤ g.S.Source.faults l.source;
}
