use Rattle.std.proofs.Common.{◌≡◌, map, string_bytes, take}
use Rattle.gate_files.proofs.order.copied.Given as goal

-- the names so far are copied
abbrev pub invariant-loop-i : goal.invariant-loop-i
invariant-loop-i l = map string_bytes l.all.items ≡ take l.i l.names
