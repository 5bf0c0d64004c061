-- Two lists that are the same, cut at a mark.
use Rattle.std.proofs.Common.{◌≡◌, ◌∙◌, ℕ, List, [], ◌∷◌, ◌++◌, All, ap, refl, sym}
use Rattle.std.proofs.lemmas.List.Elements.{All-head, All-same, All-tail}

-- the mark is not in a list
abbrev pub IsFree : ℕ → List ℕ → Type 0
IsFree m xs = All (λ x. x ≡ m → ⊥) xs

never : (m x : ℕ) (xs : List ℕ) → IsFree m (x ∷ xs) → x ≡ m → ⊥
never m x xs h e = All-head (λ y. y ≡ m → ⊥) x xs h e

-- at the first mark
pub split_first : (m : ℕ) (xs ys r s : List ℕ) → IsFree m xs → IsFree m ys → xs ++ m ∷ r ≡ ys ++ m ∷ s → (xs ≡ ys) × (r ≡ s)
split_first m [] [] r s h k e = (refl, (cc))
split_first m [] (y ∷ ys) r s h k e = absurd (never m y ys k (cc))
split_first m (x ∷ xs) [] r s h k e = absurd (never m x xs h (cc))
split_first m (x ∷ xs) (y ∷ ys) r s h k e =
    let P : ℕ → Type 0 = λ z. z ≡ m → ⊥ in
    let later = split_first m xs ys r s (All-tail P x xs h) (All-tail P y ys k) (cc) in
    let same : x ≡ y = cc in
    (ap (λ z. z ∷ xs) same ∙ ap (λ l. y ∷ l) later.0, later.1)

within : (m : ℕ) (xs r : List ℕ) → IsFree m (xs ++ m ∷ r) → ⊥
within m [] r h = never m m r h refl
within m (x ∷ xs) r h = within m xs r (All-tail (λ z. z ≡ m → ⊥) x (xs ++ m ∷ r) h)

-- at the last mark
pub split_last : (m : ℕ) (xs ys r s : List ℕ) → IsFree m r → IsFree m s → xs ++ m ∷ r ≡ ys ++ m ∷ s → (xs ≡ ys) × (r ≡ s)
split_last m [] [] r s h k e = (refl, (cc))
split_last m [] (y ∷ ys) r s h k e =
    let same : r ≡ ys ++ m ∷ s = cc in
    absurd (within m ys s (All-same (λ z. z ≡ m → ⊥) (ys ++ m ∷ s) r (sym same) h))
split_last m (x ∷ xs) [] r s h k e =
    let same : xs ++ m ∷ r ≡ s = cc in
    absurd (within m xs r (All-same (λ z. z ≡ m → ⊥) (xs ++ m ∷ r) s same k))
split_last m (x ∷ xs) (y ∷ ys) r s h k e =
    let later = split_last m xs ys r s h k (cc) in
    let same : x ≡ y = cc in
    (ap (λ z. z ∷ xs) same ∙ ap (λ l. y ∷ l) later.0, later.1)
