-- Steps of loops over lines, reports and files.
use Rattle.std.proofs.Common.{◌≡◌, ◌∙◌, ◌∷◌, [], ◌++◌, All, Bool, true, List, map, ap, append_assoc, arith, refl, subst, suc}
use Rattle.std.specs.List.{AllZip, list_any}
use Rattle.std.specs.Prelude.{◌||◌, filter}

-- what holds of all holds of those after the first
pub all_after : {A : Type 0} (P : A → Type 0) (x : A) (all rest : List A) → all ≡ x ∷ rest → All P all → All P rest
all_after P x all rest e h = let g : All P (x ∷ rest) = subst (λ xs. All P xs) e h in λ k d l. g (suc k) d (omega arith)

-- some image passes a test
pub any_mapped : {A B : Type 0} (p : B → Bool) (f : A → B) (xs : List A) → list_any p (map f xs) ≡ list_any (λ x. p (f x)) xs
any_mapped p f [] = refl
any_mapped p f (x ∷ xs) = ap (λ b. p (f x) || b) (any_mapped p f xs)

-- one pair more
pub zip_snoc : {A B : Type 0} (R : A → B → Type 0) (xs : List A) (ys : List B) (x : A) (y : B) → AllZip R xs ys → R x y → AllZip R (xs ++ x ∷ []) (ys ++ y ∷ [])
zip_snoc R [] [] x y h r = (r, tt)
zip_snoc R [] (b ∷ ys) x y h r = absurd h
zip_snoc R (a ∷ xs) [] x y h r = absurd h
zip_snoc R (a ∷ xs) (b ∷ ys) x y h r = (h.0, zip_snoc R xs ys x y h.1 r)

-- the first of those that are left is kept where it passes
pub kept_more : {A : Type 0} (p : A → Bool) (kept more : List A) (x : A) (all rest whole : List A) → all ≡ x ∷ rest → p x ≡ true → more ≡ kept ++ x ∷ []
    → kept ++ filter p all ≡ whole → more ++ filter p rest ≡ whole
kept_more p kept more x all rest whole e h m w =
    let g : kept ++ filter p (x ∷ rest) ≡ whole = rw e at w in
    let k : kept ++ (x ∷ filter p rest) ≡ whole = rw h at g in
    rw m (append_assoc kept (x ∷ []) (filter p rest) ∙ k)
