-- What a test says of each byte.
use Rattle.std.proofs.Common.{◌≡◌, ℕ, Bool, true, List, [], ◌∷◌, All}
use Rattle.std.specs.List.{list_all}
use Rattle.std.proofs.lemmas.Bool.{and_parts}
use Rattle.std.proofs.lemmas.List.Elements.{All-cons, All-nil}

pub all_from_test : (P : ℕ → Type 0) (test : ℕ → Bool) → ((b : ℕ) → test b ≡ true → P b) → (xs : List ℕ) → list_all test xs ≡ true → All P xs
all_from_test P test h [] e = All-nil P
all_from_test P test h (x ∷ xs) e =
    let parts = and_parts (test x) (list_all test xs) e in
    All-cons P x xs (h x parts.0) (all_from_test P test h xs parts.1)
