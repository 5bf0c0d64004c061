-- The test by which a path is matched says what the definition says.
use Rattle.std.proofs.Common.{◌≡◌, inl, inr, ◌∙◌, ap, arith, refl, subst, sym, ℕ, Bool, true, false, ◌&&◌, cond, List, [], ◌∷◌, ◌++◌, length}
use Rattle.std.proofs.lemmas.Bool.{and_from, and_parts, false≢true, or_cases, or_left, or_right}
use Rattle.std.specs.List.{list_all}
use Rattle.path_pattern.specs.declared.part.Part.{Part}
use Rattle.path_pattern.specs.Patterns.{Fits, Matches, takes, takes_many}
use Rattle.path_pattern.specs.Rows.{after_any, after_one, ends_here, matched_by, part_test}

-- ---- from the test to the pieces

-- a piece of these bytes, and a rest that passes
abbrev Cut : (ℕ → Bool) → (List ℕ → Bool) → List ℕ → Type 0
Cut may test path = (piece : List ℕ) × (rest : List ℕ) × (path ≡ piece ++ rest) × (list_all may piece ≡ true) × (test rest ≡ true)

any_cut : (may : ℕ → Bool) (test : List ℕ → Bool) (path : List ℕ) → after_any may test path ≡ true → Cut may test path
any_cut may test [] h = ([], [], refl, refl, h)
any_cut may test (x ∷ xs) h =
    elim (or_cases (test (x ∷ xs)) (may x && after_any may test xs) h) [
      | inl here ↦ ([], x ∷ xs, refl, refl, here)
      | inr later ↦
          let (first, more) = and_parts (may x) (after_any may test xs) later in
          let (piece, rest, same, all, passes) = any_cut may test xs more in
          (x ∷ piece, rest, ap (λ s. x ∷ s) same, and_from (may x) (list_all may piece) first all, passes)
    ]

fits_any : (part : Part) (test : List ℕ → Bool) (path : List ℕ) → takes_many part ≡ true → after_any (takes part) test path ≡ true
    → (piece : List ℕ) × (rest : List ℕ) × (path ≡ piece ++ rest) × Fits part piece × (test rest ≡ true)
fits_any part test path many h =
    let (piece, rest, same, all, passes) = any_cut (takes part) test path h in
    (piece, rest, same, record { taken = all; number = inl many }, passes)

fits_one : (part : Part) (test : List ℕ → Bool) (path : List ℕ) → after_one (takes part) test path ≡ true
    → (piece : List ℕ) × (rest : List ℕ) × (path ≡ piece ++ rest) × Fits part piece × (test rest ≡ true)
fits_one part test [] h = absurd (false≢true h)
fits_one part test (x ∷ xs) h =
    let (first, passes) = and_parts (takes part x) (test xs) h in
    (x ∷ [], xs, refl, record { taken = and_from (takes part x) true first refl; number = inr refl }, passes)

fits_part : (part : Part) (test : List ℕ → Bool) (path : List ℕ) (many : Bool) → takes_many part ≡ many → cond many (after_any (takes part) test path) (after_one (takes part) test path) ≡ true
    → (piece : List ℕ) × (rest : List ℕ) × (path ≡ piece ++ rest) × Fits part piece × (test rest ≡ true)
fits_part part test path true e h = fits_any part test path e h
fits_part part test path false e h = fits_one part test path h

nothing_left : (path : List ℕ) → ends_here path ≡ true → path ≡ []
nothing_left [] h = refl
nothing_left (x ∷ xs) h = absurd (false≢true h)

pub test_sound : (parts : List Part) (path : List ℕ) → matched_by parts path ≡ true → Matches parts path
test_sound [] path h = nothing_left path h
test_sound (part ∷ parts) path h =
    let (piece, rest, same, fits, passes) = fits_part part (matched_by parts) path (takes_many part) refl h in
    (piece, rest, same, fits, test_sound parts rest passes)

-- ---- from the pieces to the test

any_passes : (may : ℕ → Bool) (test : List ℕ → Bool) (piece rest : List ℕ) → list_all may piece ≡ true → test rest ≡ true → after_any may test (piece ++ rest) ≡ true
any_passes may test [] [] all passes = passes
any_passes may test [] (x ∷ rest) all passes = or_left (test (x ∷ rest)) (may x && after_any may test rest) passes
any_passes may test (x ∷ piece) rest all passes =
    let (first, more) = and_parts (may x) (list_all may piece) all in
    let later = and_from (may x) (after_any may test (piece ++ rest)) first (any_passes may test piece rest more passes) in
    or_right (test (x ∷ (piece ++ rest))) (may x && after_any may test (piece ++ rest)) later

one_passes : (may : ℕ → Bool) (test : List ℕ → Bool) (piece rest : List ℕ) → length piece ≡ 1 → list_all may piece ≡ true → test rest ≡ true → after_one may test (piece ++ rest) ≡ true
one_passes may test [] rest one all passes = absurd (omega (arith, one))
one_passes may test (x ∷ []) rest one all passes = and_from (may x) (test rest) (and_parts (may x) true all).0 passes
one_passes may test (x ∷ y ∷ piece) rest one all passes = absurd (omega (arith, one))

part_passes : (part : Part) (test : List ℕ → Bool) (piece rest : List ℕ) (many : Bool) → takes_many part ≡ many → Fits part piece → test rest ≡ true
    → cond many (after_any (takes part) test (piece ++ rest)) (after_one (takes part) test (piece ++ rest)) ≡ true
part_passes part test piece rest true e fits passes = any_passes (takes part) test piece rest fits.taken passes
part_passes part test piece rest false e fits passes =
    elim fits.number [
      | inl many ↦ absurd (false≢true (sym e ∙ many))
      | inr one ↦ one_passes (takes part) test piece rest one fits.taken passes
    ]

pub test_complete : (parts : List Part) (path : List ℕ) → Matches parts path → matched_by parts path ≡ true
test_complete [] path m = subst (λ (p : List ℕ). ends_here p ≡ true) (sym m) refl
test_complete (part ∷ parts) path (piece, rest, same, fits, more) =
    let passes = part_passes part (matched_by parts) piece rest (takes_many part) refl fits (test_complete parts rest more) in
    subst (λ (p : List ℕ). part_test part (matched_by parts) p ≡ true) (sym same) passes
