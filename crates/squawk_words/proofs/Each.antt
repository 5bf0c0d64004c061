-- Reading the elements of a list, in a loop.
use Rattle.std.proofs.Common.{◌≡◌, ◌∙◌, ℕ, ◌+◌, ◌<◌, List, [], ◌∷◌, ◌++◌, Option, Some, None, get_or, length, map, option_map, refl, ap, append_assoc, arith, take, zero, suc}
use Rattle.std.specs.Prelude.{option_and_then}
use Rattle.std.proofs.lemmas.List.{take_more, map-append}
use Rattle.squawk_words.specs.Choices.{each}

module _ {A B : Type 0} (read : A → Option B) where
  -- one more element at the end
  each-push : (xs : List A) (x : A) → each read (xs ++ x ∷ []) ≡ option_and_then (λ ys. option_map (λ y. ys ++ y ∷ []) (read x)) (each read xs)
  each-push [] x = one (read x)
    where
      one : (o : Option B) → option_and_then (λ y. option_map (λ ys. y ∷ ys) (Some [])) o ≡ option_map (λ y. [] ++ y ∷ []) o
      one None = refl
      one (Some y) = refl
  each-push (z ∷ xs) x = go (read z) (each-push xs x)
    where
      last : (w : B) (o : Option (List B)) (q : Option B)
          → option_map (λ ys. w ∷ ys) (option_and_then (λ ys. option_map (λ y. ys ++ y ∷ []) q) o) ≡ option_and_then (λ ys. option_map (λ y. ys ++ y ∷ []) q) (option_map (λ ys. w ∷ ys) o)
      last w None q = refl
      last w (Some ys) None = refl
      last w (Some ys) (Some y) = refl

      go : (o : Option B) → each read (xs ++ x ∷ []) ≡ option_and_then (λ ys. option_map (λ y. ys ++ y ∷ []) (read x)) (each read xs)
          → option_and_then (λ y. option_map (λ ys. y ∷ ys) (each read (xs ++ x ∷ []))) o
          ≡ option_and_then (λ ys. option_map (λ y. ys ++ y ∷ []) (read x)) (option_and_then (λ y. option_map (λ ys. y ∷ ys) (each read xs)) o)
      go None below = refl
      go (Some w) below = ap (option_map (λ ys. w ∷ ys)) below ∙ last w (each read xs) (read x)

module _ {X A B : Type 0} (value : X → A) (read : A → Option B) where
  push : (front : List B) (o : Option (List B)) (zs : List B) (y : B) → option_map (λ ys. front ++ ys) o ≡ Some zs
      → option_map (λ ys. front ++ ys) (option_and_then (λ ys. option_map (λ y. ys ++ y ∷ []) (Some y)) o) ≡ Some (zs ++ y ∷ [])
  push front None zs y before = absurd (cc)
  push front (Some ys) zs y before =
      let same : front ++ ys ≡ zs = cc in rw (← append_assoc, same) refl

  -- one more element that is read, after a front
  pub each_more : (front : List B) (xs : List X) (i : ℕ) (d : X) (zs : List B) (y : B) → i < length xs
      → option_map (λ ys. front ++ ys) (each read (map value (take i xs))) ≡ Some zs → read (value (get_or xs i d)) ≡ Some y
      → option_map (λ ys. front ++ ys) (each read (map value (take (i + 1) xs))) ≡ Some (zs ++ y ∷ [])
  each_more front xs i d zs y l before here =
      rw (take_more xs i d l, map-append value (take i xs) (get_or xs i d ∷ []), each-push read (map value (take i xs)) (value (get_or xs i d)), here)
      (push front (each read (map value (take i xs))) zs y before)

  -- an element that cannot be read
  pub each_fails : (xs : List X) (i : ℕ) (d : X) → i < length xs → read (value (get_or xs i d)) ≡ None → each read (map value xs) ≡ None
  each_fails [] i d l here = absurd (omega arith)
  each_fails (x ∷ xs) zero d l here = rw here refl
  each_fails (x ∷ xs) (suc i) d l here = rw (each_fails xs i d (omega arith) here) (nothing (read (value x)))
    where
      nothing : (o : Option B) → option_and_then {T = B} {U = List B} (λ y. None) o ≡ None
      nothing None = refl
      nothing (Some y) = refl
