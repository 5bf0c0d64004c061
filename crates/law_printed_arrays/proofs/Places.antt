-- How great a place is in a text that is short.
use Rattle.std.proofs.Common.{ℕ, ◌<◌, ◌^◌, List, arith, length}
use Rattle.std.specs.Str.{IsCharBoundary}

pub at_short : (text : List ℕ) (at : ℕ) → length text < 2 ^ 32 → IsCharBoundary text at → at < 2 ^ 64
at_short text at short h = omega (arith, short, h.0)
