-- Chunks, one after another.
use Rattle.std.proofs.Common.{◌≡◌, ℕ, zero, suc, List, [], ◌∷◌, drop, refl}
use Rattle.sql_token.specs.declared.terminal.Terminal.{Terminal}
use Rattle.sql_token.specs.Chunks.{chunks_after}

-- Chunks after the first n terminals are those of what comes after these.
pub chunks_skipped : (len : List Terminal → ℕ) (n : ℕ) (ts : List Terminal) → chunks_after len n ts ≡ chunks_after len 0 (drop n ts)
chunks_skipped len zero ts = refl
chunks_skipped len (suc n) [] = refl
chunks_skipped len (suc n) (t ∷ ts) = chunks_skipped len n ts
