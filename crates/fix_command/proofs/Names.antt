-- Names, one by one.
use Rattle.std.proofs.Common.{◌≡◌, ◌∙◌, ◌+◌, ◌≤◌, ap, arith, sym, ℕ, zero, suc, List, [], ◌∷◌, ◌++◌, length, take, Some}
use Rattle.std.proofs.lemmas.List.{take_all}
use Rattle.std.proofs.lemmas.Option.{slice_get_within}
use Rattle.std.specs.Prelude.{slice_get}
use Rattle.fix_asked.specs.squawk_words.Words.{Text}

take_at : (names : List Text) (k : ℕ) (name : Text) → slice_get names k ≡ Some name → take (k + 1) names ≡ take k names ++ name ∷ []
take_at [] k name e = absurd (omega (arith, slice_get_within [] k name e))
take_at (first ∷ names) zero name e = let same : first ≡ name = cc in ap (λ n. n ∷ []) same
take_at (first ∷ names) (suc k) name e =
    let next : suc k + 1 ≡ suc (k + 1) = omega arith in
    rw next (ap (λ ns. first ∷ ns) (take_at names k name e))

-- one name more was copied
pub next_copied : (names : List Text) (i : ℕ) (name : Text) (copy more : List Text) → slice_get names i ≡ Some name → more ≡ copy ++ name ∷ [] → copy ≡ take i names
    → more ≡ take (i + 1) names
next_copied names i name copy more at e so = e ∙ (ap (λ ns. ns ++ name ∷ []) so ∙ sym (take_at names i name at))

pub all_copied : (names : List Text) (i : ℕ) (copy : List Text) → length names ≤ i → copy ≡ take i names → copy ≡ names
all_copied names i copy l e = e ∙ take_all i names l
