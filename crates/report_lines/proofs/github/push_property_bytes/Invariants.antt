use Rattle.std.proofs.Common.{◌≡◌, ◌++◌, drop, flat_map}
use Rattle.report_lines.specs.Github.{property_byte}
use Rattle.report_lines.proofs.github.push_property_bytes.Given as goal

abbrev pub invariant-loop-byte : goal.invariant-loop-byte
invariant-loop-byte l = l.to.items ++ flat_map property_byte (drop l.byte-index l.text) ≡ l.initial.to.items ++ flat_map property_byte l.text
