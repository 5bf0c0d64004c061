-- Lists of terminals cut into chunks.
use Rattle.std.specs.Prelude.{ℕ, zero, suc, ◌-◌, List, [], ◌∷◌, take}
use Rattle.sql_token.specs.declared.terminal.Terminal.{Terminal}

-- the chunks of what follows the first n terminals
abbrev pub chunks_after : (List Terminal → ℕ) → ℕ → List Terminal → List (List Terminal)
chunks_after len n [] = []
chunks_after len zero (t ∷ ts) = take (len (t ∷ ts)) (t ∷ ts) ∷ chunks_after len (len (t ∷ ts) - 1) ts
chunks_after len (suc n) (t ∷ ts) = chunks_after len n ts

-- A list cut into chunks, of which `len` says how many terminals the first has: the others are those of what follows it.
unfoldable pub chunks : (List Terminal → ℕ) → List Terminal → List (List Terminal)
chunks len ts = chunks_after len 0 ts
