use Rattle.std.proofs.Common.{◌≡◌}
use Rattle.std.specs.Str.{bytes_eq}
use Rattle.sql_name.specs.FullBytes.{bytes_left}
use Rattle.sql_name.proofs.full_bytes.is_same.Given as goal

abbrev pub invariant-loop-byte : goal.invariant-loop-byte
invariant-loop-byte l =
    bytes_eq (bytes_left l.byte-iterator) (bytes_left l.right) ≡ bytes_eq (bytes_left l.fn.left) (bytes_left l.fn.right)
