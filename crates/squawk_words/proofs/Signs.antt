-- A byte that is nowhere in a text.
use Rattle.std.proofs.Common.{◌≡◌, ◌+◌, arith, refl, ℕ, Bool, true, false, List, [], ◌∷◌, length}
use Rattle.std.specs.List.{list_any, position_or_len}

-- the first byte passes or not
at_first : (p : ℕ → Bool) (x : ℕ) (xs : List ℕ) (b : Bool) → p x ≡ b → position_or_len p (x ∷ xs) ≡ length (x ∷ xs) → (position_or_len p xs ≡ length xs → list_any p xs ≡ false)
    → list_any p (x ∷ xs) ≡ false
at_first p x xs true h e later =
    let found : position_or_len p (x ∷ xs) ≡ 0 = rw h refl in
    absurd (omega (arith, found, e))
at_first p x xs false h e later =
    let more : position_or_len p (x ∷ xs) ≡ position_or_len p xs + 1 = rw h (omega arith) in
    rw h (later (omega (arith, more, e)))

-- where no place is found, no byte passes
pub none_there : (p : ℕ → Bool) (xs : List ℕ) → position_or_len p xs ≡ length xs → list_any p xs ≡ false
none_there p [] e = refl
none_there p (x ∷ xs) e = at_first p x xs (p x) refl e (none_there p xs)
