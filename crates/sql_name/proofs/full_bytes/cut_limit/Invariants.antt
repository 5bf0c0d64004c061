use Rattle.std.proofs.Common.{◌≡◌, ◌≤◌, ◌-◌, take, drop, length}
use Rattle.sql_name.specs.FullBytes.{bytes_left}
use Rattle.sql_name.specs.Name.{full_name, cut_to}
use Rattle.sql_name.proofs.full_bytes.cut_limit.Given as goal

abbrev pub invariant-loop-byte : goal.invariant-loop-byte
invariant-loop-byte l = record {
  rest : bytes_left l.byte-iterator ≡ drop l.len (take 64 (full_name l.text));
  inside : l.len ≤ length (take 64 (full_name l.text));
  found : take l.boundary (full_name l.text) ≡ cut_to (l.len - 1) (full_name l.text);
}
