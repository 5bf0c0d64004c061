-- What the searches of a text find, in the words of the definitions.
use Rattle.std.proofs.Common.{◌≡◌, inl, inr, ℕ, zero, suc, ◌+◌, ◌<◌, ◌≤◌, ◌≢◌, Bor, true, false, List, [], ◌∷◌, ◌++◌, length, get_or, take, drop, eqb, sym, refl, ap, ◌∙◌, subst, arith}
use Rattle.std.proofs.lemmas.Bool.{cases_Bool}
use Rattle.std.proofs.lemmas.Bool.Decides.{nat_tests}
use Rattle.std.proofs.lemmas.Str.Pattern.{starts_text, IsSplitOnceResult, split_parts}
use Rattle.std.specs.Prelude.{◌==◌, ◌&&◌, Some, None, if◌then◌else◌, slice_index}
use Rattle.std.specs.List.{starts_with}
use Rattle.std.specs.Str.{IsCharBoundary}
use Rattle.std.specs.Str.Pattern.{FindsText, SplitsAroundMatch, FindsTextPrefix, StripsPrefix, LacksTextAt}
use Rattle.lint_ignore.specs.Part.{Part, before_dashes, parts_from, with_prefix}

-- ---- a text at the front

pub lacks_prefix : (n s : List ℕ) → FindsTextPrefix n s None → starts_with eqb s n ≡ false
lacks_prefix n s h = sym (starts_text false n s h)

pub has_prefix : (n s x : List ℕ) → StripsPrefix (FindsTextPrefix n) s x → (starts_with eqb s n ≡ true) × (x ≡ drop (length n) s)
has_prefix n s x (k, finds, is, len) =
    let P : ℕ → Type 0 = λ i. IsCharBoundary s i in
    let at : IsCharBoundary s k = subst P (sym finds.0) finds.2 in
    (sym (starts_text true n s (k, finds, at)), is ∙ ap (λ (i : ℕ). drop i s) finds.0)

-- ---- the first `--`

two_dashes : (b : ℕ) (bs : List ℕ) → (b == 45 && slice_index bs 0 == 45) ≡ true → (rest : List ℕ) × (b ∷ bs ≡ 45 ∷ 45 ∷ rest)
two_dashes b [] h = absurd (grind (arith, nat_tests))
two_dashes b (c ∷ bs) h =
    let first : b ≡ 45 = grind (arith, nat_tests) in
    let second : c ≡ 45 = grind (arith, nat_tests) in
    (bs, λ i. first i ∷ second i ∷ bs)

no_dashes : (b : ℕ) (bs : List ℕ) → ((rest : List ℕ) → b ∷ bs ≡ 45 ∷ 45 ∷ rest → ⊥) → (b == 45 && slice_index bs 0 == 45) ≡ false
no_dashes b bs lacks =
    elim (cases_Bool (b == 45 && slice_index bs 0 == 45)) [ inl e ↦ (let at = two_dashes b bs e in absurd (lacks at.0 at.1)) | inr e ↦ e ]

pub step_no : (b : ℕ) (bs : List ℕ) → (b == 45 && slice_index bs 0 == 45) ≡ false → before_dashes (b ∷ bs) ≡ b ∷ before_dashes bs
step_no b bs e = λ i. (if e i then [] else b ∷ before_dashes bs)

pub step_yes : (b : ℕ) (bs : List ℕ) → (b == 45 && slice_index bs 0 == 45) ≡ true → before_dashes (b ∷ bs) ≡ []
step_yes b bs e = λ i. (if e i then [] else b ∷ before_dashes bs)

-- no place has `--`
pub without_dashes : (s : List ℕ) → ((i : ℕ) → i ≤ length s → LacksTextAt (45 ∷ 45 ∷ []) s i) → before_dashes s ≡ s
without_dashes [] lacks = refl
without_dashes (b ∷ bs) lacks =
    step_no b bs (no_dashes b bs (lacks 0 (omega arith))) ∙ ap (λ (xs : List ℕ). b ∷ xs) (without_dashes bs (λ i le. lacks (suc i) (omega arith)))

-- the first `--` is at i
pub up_to_dashes : (s rest : List ℕ) (i : ℕ) → ((k : ℕ) → k < i → LacksTextAt (45 ∷ 45 ∷ []) s k) → drop i s ≡ 45 ∷ 45 ∷ rest → before_dashes s ≡ take i s
up_to_dashes [] rest zero lacks at = refl
up_to_dashes [] rest (suc i) lacks at = refl
up_to_dashes (b ∷ bs) rest zero lacks at = step_yes b bs (stands b bs at)
  where
    stands : (b : ℕ) (bs : List ℕ) → b ∷ bs ≡ 45 ∷ 45 ∷ rest → (b == 45 && slice_index bs 0 == 45) ≡ true
    stands b bs e = ap (λ (xs : List ℕ). slice_index xs 0 == 45 && slice_index xs 1 == 45) e
up_to_dashes (b ∷ bs) rest (suc i) lacks at =
    step_no b bs (no_dashes b bs (lacks 0 (omega arith))) ∙ ap (λ (xs : List ℕ). b ∷ xs) (up_to_dashes bs rest i (λ k lt. lacks (suc k) (omega arith)) at)

-- what `split_once` gives
pub prefix_of_dashes : (s front back : List ℕ) → SplitsAroundMatch (FindsText (45 ∷ 45 ∷ [])) s front back → before_dashes s ≡ front
prefix_of_dashes s front back h = up_to_dashes s (drop h.1 s) h.0 h.2.0 h.2.1.split ∙ sym h.3

-- ---- commas

pub step_comma : (at b : ℕ) (bs : List ℕ) → (b == 44) ≡ false → parts_from at (b ∷ bs) ≡ with_prefix at b (parts_from (at + 1) bs)
step_comma at b bs e = λ i. (if e i then record { at = at; bytes = [] } ∷ parts_from (at + 1) bs else with_prefix at b (parts_from (at + 1) bs))

no_comma : (b : ℕ) → b ≢ 44 → (b == 44) ≡ false
no_comma b h = grind (arith, nat_tests)

-- no byte is a comma
pub pieces_plain : (at : ℕ) (xs : List ℕ) → ((i : ℕ) → i < length xs → get_or xs i 0 ≢ 44) → parts_from at xs ≡ record { at = at; bytes = xs } ∷ []
pieces_plain at [] h = refl
pieces_plain at (x ∷ xs) h =
    step_comma at x xs (no_comma x (h 0 (omega arith)))
    ∙ ap (λ (ps : List Part). with_prefix at x ps) (pieces_plain (at + 1) xs (λ i lt. h (suc i) (omega arith)))

-- the first comma is between xs and ys
pub pieces_comma : (at : ℕ) (xs ys : List ℕ) → ((i : ℕ) → i < length xs → get_or xs i 0 ≢ 44) → parts_from at (xs ++ 44 ∷ ys) ≡ record { at = at; bytes = xs } ∷ parts_from (at + length xs + 1) ys
pieces_comma at [] ys h =
    let same : at + 1 ≡ at + 0 + 1 = omega arith in
    ap (λ (n : ℕ). record { at = at; bytes = [] } ∷ parts_from n ys) same
pieces_comma at (x ∷ xs) ys h =
    let same : at + 1 + length xs + 1 ≡ at + length (x ∷ xs) + 1 = omega arith in
    step_comma at x (xs ++ 44 ∷ ys) (no_comma x (h 0 (omega arith)))
    ∙ (ap (λ (ps : List Part). with_prefix at x ps) (pieces_comma (at + 1) xs ys (λ i lt. h (suc i) (omega arith)))
    ∙ ap (λ (n : ℕ). record { at = at; bytes = x ∷ xs } ∷ parts_from n ys) same)

-- what `split_once` gives
pub split_some : (at : ℕ) (bs : List ℕ) (piece rest : Bor (List ℕ)) → IsSplitOnceResult 44 bs (Some (piece, rest)) → parts_from at bs ≡ record { at = at; bytes = piece.now } ∷ parts_from (at + length piece.now + 1) rest.now
split_some at bs piece rest h =
    let parts = split_parts 44 bs (Some (piece, rest)) h (omega arith) in
    ap (λ (xs : List ℕ). parts_from at xs) parts.0 ∙ pieces_comma at piece.now rest.now parts.1

pub split_none : (at : ℕ) (bs : List ℕ) → IsSplitOnceResult 44 bs None → parts_from at bs ≡ record { at = at; bytes = bs } ∷ []
split_none at bs h = pieces_plain at bs (split_parts 44 bs None h (omega arith))
