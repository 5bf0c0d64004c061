-- What makes a prefix the longest.
use Rattle.std.specs.Prelude.{ℕ, ◌≡◌, ◌≤◌, List, length, take}
use Rattle.std.specs.Str.{IsCharBoundary}

-- cut is the longest prefix of full that ends on a character boundary and has at most limit bytes
pub record IsLongestCut (limit : ℕ) (full cut : List ℕ) : Type 0 where
  pub is_prefix : cut ≡ take (length cut) full
  pub fits : length cut ≤ limit
  pub ends_well : IsCharBoundary full (length cut)
  pub is_longest : (n : ℕ) → n ≤ limit → IsCharBoundary full n → n ≤ length cut
