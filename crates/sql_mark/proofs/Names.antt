-- One more name of a path.
use Rattle.std.proofs.Common.{◌≡◌, ℕ, ◌-◌, ◌≤◌, List, [], ◌∷◌, length, get_or, take, drop, refl, ap, arith, true}
use Rattle.sql_token.specs.declared.terminal.Terminal.{Terminal}
use Rattle.sql_token.specs.Terminal.{is_dot, is_name}
use Rattle.sql_tree.specs.Forms.{names_end}

take-length : {A : Type 0} (xs : List A) → take (length xs) xs ≡ xs
take-length [] = refl
take-length (x ∷ xs) = ap (λ ys. x ∷ ys) (take-length xs)

pub names-step : (n : ℕ) (ts : List Terminal) (d : Terminal) → 2 ≤ length ts → is_dot (get_or ts 0 d) ≡ true → is_name (get_or ts 1 d) ≡ true →
    names_end (get_or ts 1 d).number (take (length ts - 2) (drop 2 ts)) ≡ names_end n ts
names-step n [] d h p q = absurd (omega arith)
names-step n (r ∷ []) d h p q = absurd (omega arith)
names-step n (r ∷ s ∷ ts) d h p q = rw (p, q) (let e : length (r ∷ s ∷ ts) - 2 ≡ length ts = omega arith in rw (e, take-length) refl)
