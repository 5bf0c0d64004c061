-- Where a name is cut, and the tokens of a statement one by one.
use Rattle.std.proofs.Common.{◌≡◌, ◌∙◌, sym, ap, ℕ, suc, ◌+◌, ◌-◌, ◌<◌, ◌≤◌, List, [], ◌∷◌, ◌++◌, append_assoc, length, take, inl, inr, arith}
use Rattle.std.proofs.lemmas.Bool.{cases_lt}
use Rattle.std.proofs.lemmas.List.{append-nil}
use Rattle.std.specs.List.{flat_map, slice_range}
use Rattle.std.specs.Str.{IsCharBoundary}
use Rattle.lint_pass.specs.sql_name.Cut.{IsLongestCut}
use Rattle.lint_pass.specs.sql_name.Name.{cut_to, full_name}
use Rattle.lint_pass.proofs.of_sql_name.Cuts.{cut_to_longest}
use Rattle.lint_pass.proofs.of_sql_name.FullText.{length-full_name}
use Rattle.pass_name.specs.IdentifierTooLong.{numbers_from}

-- the last boundary within n bytes is where the cut ends
pub floor_cuts : (n r : ℕ) (s : List ℕ) → IsCharBoundary s 0 → r ≤ n → IsCharBoundary s r → ((i : ℕ) → r < i → i ≤ n → IsCharBoundary s i → ⊥) → slice_range s 0 r ≡ cut_to n s
floor_cuts n r s start within boundary nearest =
    let longest : IsLongestCut n s (cut_to n s) = cut_to_longest n s start in
    let least : r ≤ length (cut_to n s) = longest.is_longest r within boundary in
    elim (cases_lt r (length (cut_to n s))) [
      | inl more ↦ absurd (nearest (length (cut_to n s)) more longest.fits longest.ends_well)
      | inr most ↦
          let same : r - 0 ≡ length (cut_to n s) = omega (arith, least, most) in
          ap (λ (k : ℕ). take k s) same ∙ sym longest.is_prefix
    ]

-- the first number and those after it
pub numbers_more : (first end : ℕ) → first < end → numbers_from first (end - first) ≡ first ∷ numbers_from (first + 1) (end - (first + 1))
unfolding numbers_from
numbers_more first end lt =
    let more : end - first ≡ suc (end - (first + 1)) = omega arith in
    ap (numbers_from first) more

pub numbers_none : (first end : ℕ) → end ≤ first → numbers_from first (end - first) ≡ []
unfolding numbers_from
numbers_none first end le =
    let none : end - first ≡ 0 = omega arith in
    ap (numbers_from first) none

module _ {V : Type 0} (f : ℕ → List V) (first end : ℕ) (out all : List V) where
  -- one more number was gone through
  pub number_next : (new : List V) → first < end → new ≡ out ++ f first → out ++ flat_map f (numbers_from first (end - first)) ≡ all
      → new ++ flat_map f (numbers_from (first + 1) (end - (first + 1))) ≡ all
  number_next new lt n h =
      let rest : List ℕ = numbers_from (first + 1) (end - (first + 1)) in
      ap (λ xs. xs ++ flat_map f rest) n ∙ append_assoc out (f first) (flat_map f rest) ∙ ap (λ ns. out ++ flat_map f ns) (sym (numbers_more first end lt)) ∙ h

  -- none is left
  pub numbers_done : end ≤ first → out ++ flat_map f (numbers_from first (end - first)) ≡ all → out ≡ all
  numbers_done le h = sym (append-nil out) ∙ ap (λ ns. out ++ flat_map f ns) (sym (numbers_none first end le)) ∙ h

-- a full text has no more bytes than its token
pub full_within : (t : List ℕ) → length (full_name t) ≤ length t
full_within t = length-full_name t
