use Rattle.std.proofs.Common.{◌≡◌, ◌++◌}
use Rattle.sql_name.specs.FullBytes.{bytes_left}
use Rattle.sql_name.specs.Name.{full_name}
use Rattle.sql_name.proofs.full_bytes.folded.Given as goal

abbrev pub invariant-loop-byte : goal.invariant-loop-byte
invariant-loop-byte l = l.bytes.items ++ bytes_left l.byte-iterator ≡ full_name l.text
