use Rattle.std.proofs.Common.{◌≡◌}
use Rattle.std.specs.Ordering.{nat_cmp}
use Rattle.std.specs.Cmp.Lexicographic.{slice_cmp}
use Rattle.sql_name.specs.FullBytes.{bytes_left}
use Rattle.sql_name.proofs.full_bytes.compare.Given as goal

abbrev pub invariant-loop-byte : goal.invariant-loop-byte
invariant-loop-byte l =
    slice_cmp nat_cmp (bytes_left l.byte-iterator) (bytes_left l.right)
    ≡ slice_cmp nat_cmp (bytes_left l.fn.left) (bytes_left l.fn.right)
