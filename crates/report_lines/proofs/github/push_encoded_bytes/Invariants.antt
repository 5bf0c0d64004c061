use Rattle.std.proofs.Common.{◌≡◌, ◌++◌, drop, flat_map}
use Rattle.report_lines.specs.Github.{encoded_byte}
use Rattle.report_lines.proofs.github.push_encoded_bytes.Given as goal

abbrev pub invariant-loop-byte : goal.invariant-loop-byte
invariant-loop-byte l = l.to.items ++ flat_map encoded_byte (drop l.byte-index l.text) ≡ l.initial.to.items ++ flat_map encoded_byte l.text
