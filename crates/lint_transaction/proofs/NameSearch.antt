-- A search for a name in a list of names.
use Rattle.std.proofs.Common.{◌≡◌, ◌∙◌, sym, ap, refl, ℕ, ◌+◌, Bool, true, false, ◌||◌, List, take, get_or, Some}
use Rattle.std.proofs.lemmas.List.Folds.{list_any_at, list_any_more}
use Rattle.std.proofs.lemmas.Option.{slice_get_within, slice_get-get_or}
use Rattle.std.proofs.lemmas.Slice.Eq.{bytes_eq-Decides}
use Rattle.std.specs.Prelude.{IsTrue, slice_get, ◌↔◌}
use Rattle.std.specs.List.{list_any}
use Rattle.std.specs.Str.{bytes_eq}

both_ways : (a b : Bool) → (a ≡ true → b ≡ true) → (b ≡ true → a ≡ true) → a ≡ b
both_ways true b f g = sym (f refl)
both_ways false true f g = g refl
both_ways false false f g = refl

-- a test for equal texts
pub is_name : (r : Bool) (name text : List ℕ) → IsTrue r ↔ (name ≡ text) → r ≡ bytes_eq text name
is_name r name text says = both_ways r (bytes_eq text name) (λ e. (bytes_eq-Decides text name).1 (sym (says.0 e))) (λ e. says.1 (sym ((bytes_eq-Decides text name).0 e)))

element : {X : Type 0} (xs : List X) (i : ℕ) (x : X) → slice_get xs i ≡ Some x → get_or xs i x ≡ x
element xs i x there = let e = slice_get-get_or xs i x (slice_get_within xs i x there) in cc

-- an element that passes is in the list
pub found_in : {X : Type 0} (p : X → Bool) (xs : List X) (i : ℕ) (x : X) → slice_get xs i ≡ Some x → p x ≡ true → list_any p xs ≡ true
found_in p xs i x there pass = list_any_at p xs i x (slice_get_within xs i x there) (ap p (element xs i x there) ∙ pass)

-- none of those so far, and not the next one
pub none_next : {X : Type 0} (p : X → Bool) (xs : List X) (i : ℕ) (x : X) → list_any p (take i xs) ≡ false → slice_get xs i ≡ Some x → p x ≡ false
    → list_any p (take (i + 1) xs) ≡ false
none_next p xs i x before there not_here =
    let here : p (get_or xs i x) ≡ false = ap p (element xs i x there) ∙ not_here in
    list_any_more p xs i x (slice_get_within xs i x there) ∙ (λ k. before k || here k)
