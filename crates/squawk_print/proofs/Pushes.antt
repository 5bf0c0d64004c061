-- Pieces pushed to a list of bytes, one after another.
use Rattle.std.proofs.Common.{◌≡◌, ℕ, ◌+◌, ◌<◌, ◌≤◌, List, ◌++◌, drop, get_or, length, length-append, append_assoc, append-nil, ap, sym, ◌∙◌, arith}
use Rattle.std.specs.List.{flat_map}
use Rattle.std.proofs.lemmas.List.{at_drop_more, at_drop_all}

-- a second piece
pub pushed : (a b c xs ys : List ℕ) → b ≡ a ++ xs → c ≡ b ++ ys → c ≡ a ++ (xs ++ ys)
pushed a b c xs ys p q = q ∙ ap (λ l. l ++ ys) p ∙ append_assoc a xs ys

-- the piece of the next item, and then those after it
each_from : {A : Type 0} (f : A → List ℕ) (xs : List A) (i : ℕ) (x : A) (to : List ℕ) → i < length xs → x ≡ get_or xs i x
    → (to ++ f x) ++ flat_map f (drop (i + 1) xs) ≡ to ++ flat_map f (drop i xs)
each_from f xs i x to h e =
    let here = at_drop_more (flat_map f) xs i x h in
    let same : f x ++ flat_map f (drop (i + 1) xs) ≡ flat_map f (drop i xs) = ap (λ y. f y ++ flat_map f (drop (i + 1) xs)) e ∙ sym here in
    append_assoc to (f x) (flat_map f (drop (i + 1) xs)) ∙ ap (λ l. to ++ l) same

pub each_pushed : {A : Type 0} (f : A → List ℕ) (xs : List A) (i : ℕ) (x : A) (to new all : List ℕ) → i < length xs → x ≡ get_or xs i x
    → to ++ flat_map f (drop i xs) ≡ all → new ≡ to ++ f x → new ++ flat_map f (drop (i + 1) xs) ≡ all
each_pushed f xs i x to new all h e p q = ap (λ l. l ++ flat_map f (drop (i + 1) xs)) q ∙ each_from f xs i x to h e ∙ p

-- no room for the piece of an item, and so none for all
pub each_lacks : {A : Type 0} (f : A → List ℕ) (xs : List A) (i : ℕ) (x : A) (to all : List ℕ) (room later : ℕ) → i < length xs
    → x ≡ get_or xs i x → to ++ flat_map f (drop i xs) ≡ all → room ≤ later → later < length (to ++ f x) → room < length all
each_lacks f xs i x to all room later h e p r l =
    omega (arith, ap length (each_from f xs i x to h e ∙ p), length-append (to ++ f x) (flat_map f (drop (i + 1) xs)))

pub each_end : {A : Type 0} (f : A → List ℕ) (xs : List A) (i : ℕ) (to all : List ℕ) → length xs ≤ i
    → to ++ flat_map f (drop i xs) ≡ all → to ≡ all
each_end f xs i to all h p = sym (append-nil to) ∙ ap (λ l. to ++ l) (sym (at_drop_all (flat_map f) xs i h)) ∙ p
