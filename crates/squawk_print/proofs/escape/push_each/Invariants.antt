use Rattle.std.proofs.Common.{◌≡◌, ◌≤◌, ◌++◌, drop, vec_capacity}
use Rattle.squawk_print.specs.Escaped.{escaped}
use Rattle.squawk_print.proofs.escape.push_each.Given as goal

abbrev pub invariant-loop-byte : goal.invariant-loop-byte
invariant-loop-byte l = record {
  grown : l.to.items ++ escaped (drop l.byte-index l.text) ≡ l.initial.to.items ++ escaped l.text;
  capacity : vec_capacity l.initial.to ≤ vec_capacity l.to;
}
