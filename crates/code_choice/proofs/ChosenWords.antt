-- Words that are gone through one by one.
use Rattle.std.proofs.Common.{◌≡◌, ◌∙◌, ◌+◌, ◌++◌, ◌∷◌, ℕ, zero, suc, ap, arith, sym, List, [], Some, take}
use Rattle.std.proofs.lemmas.List.{append-nil, append_assoc}
use Rattle.std.proofs.lemmas.Option.{slice_get_within}
use Rattle.std.specs.Prelude.{flat_map, slice_get}

pub flat_next : {X Y : Type 0} (f : X → List Y) (xs : List X) (i : ℕ) (x : X) → slice_get xs i ≡ Some x → flat_map f (take (i + 1) xs) ≡ flat_map f (take i xs) ++ f x
flat_next f [] i x e = absurd (omega (arith, slice_get_within [] i x e))
flat_next f (first ∷ xs) zero x e = let same : first ≡ x = cc in rw same (append-nil (f x))
flat_next f (first ∷ xs) (suc i) x e =
    let next : suc i + 1 ≡ suc (i + 1) = omega arith in
    rw next (ap (λ ys. f first ++ ys) (flat_next f xs i x e) ∙ sym (append_assoc (f first) (flat_map f (take i xs)) (f x)))
