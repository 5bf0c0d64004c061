use Rattle.std.proofs.Common.{◌≡◌, fold}
use Rattle.std.specs.List.{flat_map}
use Rattle.std.specs.Hash.{u8}
use Rattle.sql_name.specs.FullBytes.{bytes_left}
use Rattle.sql_name.proofs.full_bytes.hash.Given as goal

abbrev pub invariant-loop-byte : goal.invariant-loop-byte
invariant-loop-byte g l =
    fold g.H.Hasher.write l.state (flat_map u8 (bytes_left l.byte-iterator))
    ≡ fold g.H.Hasher.write l.fn.state (flat_map u8 (bytes_left l.fn.bytes))
