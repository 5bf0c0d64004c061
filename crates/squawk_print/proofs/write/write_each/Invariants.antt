use Rattle.std.proofs.Common.{◌≤◌, ◌++◌, drop, vec_capacity}
use Rattle.squawk_print.specs.Printed.{printed_each}
use Rattle.squawk_print.specs.Written.{AppendsBut}
use Rattle.squawk_print.proofs.write.write_each.Given as goal

abbrev pub invariant-writing : goal.invariant-writing
invariant-writing g l = record {
  so_far : AppendsBut (g.K.Sink.held l.fn.sink) (g.K.Sink.held l.sink) (l.kept.items ++ printed_each (drop l.violation-index l.violations))
      (l.initial.kept.items ++ printed_each l.violations);
  later : g.K.Sink.faults l.fn.sink ≤ g.K.Sink.faults l.sink;
  capacity : vec_capacity l.initial.kept ≤ vec_capacity l.kept;
}
