-- What a search for a needle gives.
use Rattle.std.proofs.Common.{ℕ, ◌+◌, ◌≤◌, List, Some, None, IfSome, arith, length, length-take, take}
use Rattle.std.specs.declared.option.Option.{Option}
use Rattle.memchr.specs.Find.{FindsNeedle}

-- a needle that is found lies within the bytes
pub found_within : (bytes needle : List ℕ) (r : Option ℕ) → FindsNeedle bytes needle 0 r → IfSome r (λ k. k + length needle ≤ length bytes)
found_within bytes needle None h = tt
found_within bytes needle (Some k) h = h.1.fits

-- the same of a search in the first bytes
pub found_in_front : (bytes needle : List ℕ) (n : ℕ) (r : Option ℕ) → FindsNeedle (take n bytes) needle 0 r → IfSome r (λ k. k + length needle ≤ length bytes)
found_in_front bytes needle n None h = tt
found_in_front bytes needle n (Some k) h = omega (arith, h.1.fits, length-take n bytes)
