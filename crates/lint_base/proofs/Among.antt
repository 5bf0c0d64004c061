-- A text is one of some exactly where a look at each of them finds it.
use Rattle.std.proofs.Common.{◌≡◌, ◌↔◌, ℕ, Bool, true, List, [], ◌∷◌, zero, suc, IsTrue, Contains, map, arith, inl, inr, sym, ◌∙◌, refl}
use Rattle.std.specs.List.{list_any}
use Rattle.std.specs.Str.{bytes_eq}
use Rattle.std.proofs.Math.Bool.{or-true}
use Rattle.std.proofs.lemmas.Bool.{cases_Bool}
use Rattle.std.proofs.lemmas.Slice.Eq.{bytes_eq-Decides}

-- a text that is found is one of them
contained : {X : Type 0} (bytes : X → List ℕ) (names : List X) (text : List ℕ) → list_any (λ name. bytes_eq (bytes name) text) names ≡ true → Contains (map bytes names) text
contained bytes [] text h = absurd (cc)
contained bytes (name ∷ names) text h =
    elim (cases_Bool (bytes_eq (bytes name) text)) [
      | inl holds ↦ (0, omega arith, (bytes_eq-Decides (bytes name) text).0 holds)
      | inr fails ↦ let (k, l, e) = contained bytes names text (rw fails at h) in (suc k, omega arith, e)
    ]

-- one of them is found
found : {X : Type 0} (bytes : X → List ℕ) (names : List X) (text : List ℕ) → Contains (map bytes names) text → list_any (λ name. bytes_eq (bytes name) text) names ≡ true
found bytes [] text (k, l, e) = absurd (omega arith)
found bytes (name ∷ names) text (zero, l, e) = rw ((bytes_eq-Decides (bytes name) text).1 e) refl
found bytes (name ∷ names) text (suc k, l, e) = rw (found bytes names text (k, omega arith, e)) (or-true (bytes_eq (bytes name) text))

-- the answer of such a look is exact
pub contains_exactly : {X : Type 0} (bytes : X → List ℕ) (names : List X) (text : List ℕ) (r : Bool) → r ≡ list_any (λ name. bytes_eq (bytes name) text) names → IsTrue r ↔ Contains (map bytes names) text
contains_exactly bytes names text r e = ((λ h. contained bytes names text (sym e ∙ h)), (λ h. e ∙ found bytes names text h))
