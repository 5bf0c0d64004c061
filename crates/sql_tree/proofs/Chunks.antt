-- Chunks, one after another.
use Rattle.std.proofs.Common.{◌≡◌, ◌≤◌, ◌-◌, ℕ, zero, suc, List, ◌∷◌, take, drop, refl, ap, arith}
use Rattle.sql_token.specs.declared.terminal.Terminal.{Terminal}
pub use Rattle.sql_token.proofs.Chunks.{chunks_skipped}
use Rattle.sql_tree.specs.Split.{chunks, ChunksFollow}

after_first : (n : ℕ) (t : Terminal) (ts : List Terminal) → 1 ≤ n → drop n (t ∷ ts) ≡ drop (n - 1) ts
after_first zero t ts some = absurd (omega arith)
after_first (suc n) t ts some =
    let less : suc n - 1 ≡ n = omega arith in
    rw less refl

pub follow : ChunksFollow
unfolding chunks
follow len t ts some =
    rw (after_first (len (t ∷ ts)) t ts some)
    (ap (λ others. take (len (t ∷ ts)) (t ∷ ts) ∷ others) (chunks_skipped len (len (t ∷ ts) - 1) ts))
