-- A path whose tokens follow one another, and have the old texts, has the old names.
use Rattle.std.proofs.Common.{◌≡◌, ℕ, zero, suc, ◌+◌, ◌-◌, ◌<◌, ◌≤◌, ◌⊎◌, inl, inr, cond, List, [], ◌∷◌, ◌++◌, length, get_or, take, drop, sym, refl, ap, ◌∙◌, arith}
use Rattle.std.proofs.lemmas.Bool.{cases_lt}
use Rattle.std.specs.List.{flat_map}
use Rattle.law_type_fixes.specs.sql_name.Name.{cut_name}
use Rattle.law_type_fixes.specs.sql_token.declared.token.Span.{Span}
use Rattle.law_type_fixes.specs.sql_token.declared.token.Tok.{Tok}
use Rattle.law_type_fixes.specs.sql_token.Terminal.{is_name_kind}
use Rattle.law_type_fixes.specs.sql_tree.Path.{name_cuts, path_cuts}
use Rattle.law_type_fixes.specs.sql_tree.Range.{token_at}
use Rattle.law_type_fixes.specs.sql_tree.Statement.{Tree, no_token}
use Rattle.law_type_fixes.specs.law_renumber.Moved.{span_moved}
use Rattle.law_fix_steps.proofs.Moved.{Follows}

-- ---- tokens by their numbers

-- the c tokens from number a on
slice : List Tok → ℕ → ℕ → List Tok
slice ks a zero = []
slice ks a (suc c) = get_or ks a no_token ∷ slice ks (suc a) c

slice_next : (k : Tok) (ks : List Tok) (a c : ℕ) → slice (k ∷ ks) (suc a) c ≡ slice ks a c
unfolding slice
slice_next k ks a zero = refl
slice_next k ks a (suc c) = ap (λ (l : List Tok). get_or ks a no_token ∷ l) (slice_next k ks (suc a) c)

window_at : (ks : List Tok) (a c b : ℕ) → b ≡ a + c → b ≤ length ks → drop a (take b ks) ≡ slice ks a c
unfolding slice
window_at [] zero zero zero e h = refl
window_at [] zero zero (suc b) e h = absurd (omega arith)
window_at [] zero (suc c) b e h = absurd (omega (arith, e, h))
window_at [] (suc a) c b e h = absurd (omega (arith, e, h))
window_at (k ∷ ks) zero zero zero e h = refl
window_at (k ∷ ks) zero zero (suc b) e h = absurd (omega (arith, e))
window_at (k ∷ ks) zero (suc c) zero e h = absurd (omega (arith, e))
window_at (k ∷ ks) zero (suc c) (suc b) e h = ap (λ (l : List Tok). k ∷ l) (window_at ks 0 c b (omega (arith, e)) (omega (arith, h)) ∙ sym (slice_next k ks 0 c))
window_at (k ∷ ks) (suc a) c zero e h = absurd (omega (arith, e))
window_at (k ∷ ks) (suc a) c (suc b) e h = window_at ks a c b (omega (arith, e)) (omega (arith, h)) ∙ sym (slice_next k ks a c)

window_is : (ks : List Tok) (a c : ℕ) → a + c ≤ length ks → drop a (take (a + c) ks) ≡ slice ks a c
window_is ks a c h = window_at ks a c (a + c) refl h

none_in : (ks : List Tok) (a b : ℕ) → b ≤ a → drop a (take b ks) ≡ []
none_in [] zero zero h = refl
none_in [] zero (suc b) h = refl
none_in [] (suc a) zero h = refl
none_in [] (suc a) (suc b) h = refl
none_in (k ∷ ks) zero zero h = refl
none_in (k ∷ ks) zero (suc b) h = absurd (omega arith)
none_in (k ∷ ks) (suc a) zero h = refl
none_in (k ∷ ks) (suc a) (suc b) h = none_in ks a b (omega arith)

module _ (move f : ℕ → ℕ) (tree new : Tree) (lo hi : ℕ) (top : hi ≤ length tree.toks) (follows : (x : ℕ) → lo ≤ x → x < hi → Follows move f tree new x)
    (next : (x : ℕ) → lo ≤ x → suc x < hi → f (suc x) ≡ suc (f x)) (below : (x : ℕ) → lo ≤ x → x < hi → f x < length new.toks) where
  far : (x k : ℕ) → lo ≤ x → x + k < hi → f (x + k) ≡ f x + k
  far x zero p q = let e : x + 0 ≡ x = omega arith in let g : f x ≡ f x + 0 = omega arith in ap f e ∙ g
  far x (suc k) p q =
      let e : x + suc k ≡ suc (x + k) = omega arith in
      let g : suc (f x + k) ≡ f x + suc k = omega arith in
      ap f e ∙ next (x + k) (omega (arith, p)) (omega (arith, q)) ∙ ap suc (far x k p (omega (arith, q))) ∙ g

  cuts_same : (x : ℕ) → lo ≤ x → x < hi → name_cuts new.text (token_at new.toks (f x)) ≡ name_cuts tree.text (token_at tree.toks x)
  cuts_same x p q = let t = follows x p q in let kind = t.kind in let text = t.text in λ i. cond (is_name_kind (kind i)) (cut_name (text i) ∷ []) []

  here_same : (x y : ℕ) → y ≡ f x → lo ≤ x → x < hi → name_cuts new.text (token_at new.toks y) ≡ name_cuts tree.text (token_at tree.toks x)
  here_same x y e p q = ap (λ (n : ℕ). name_cuts new.text (token_at new.toks n)) e ∙ cuts_same x p q

  slices_same : (x y c : ℕ) → lo ≤ x → x + c ≤ hi → y ≡ f x → flat_map (name_cuts new.text) (slice new.toks y c) ≡ flat_map (name_cuts tree.text) (slice tree.toks x c)
  unfolding slice
  slices_same x y zero p q e = refl
  slices_same x y (suc zero) p q e = ap (λ (l : List (List ℕ)). l ++ []) (here_same x y e p (omega (arith, q)))
  slices_same x y (suc (suc c)) p q e =
      let here = here_same x y e p (omega (arith, q)) in
      let rest = slices_same (suc x) (suc y) (suc c) (omega (arith, p)) (omega (arith, q)) (ap suc e ∙ sym (next x p (omega (arith, q)))) in
      λ i. here i ++ rest i

  pub path_follows : (span : Span) → lo ≤ span.first → span.first < hi → lo ≤ span.last → span.last < hi → path_cuts new.text new.toks (span_moved f span) ≡ path_cuts tree.text tree.toks span
  path_follows span a b c d = by (cases_lt span.last span.first)
    where
      by : (span.last < span.first) ⊎ (span.first ≤ span.last) → path_cuts new.text new.toks (span_moved f span) ≡ path_cuts tree.text tree.toks span
      by (inl h) =
          let k : ℕ = span.first - span.last in
          let e : span.last + k ≡ span.first = omega (arith, h) in
          let g = sym (ap f e) ∙ far span.last k c (omega (arith, e, b)) in
          ap (λ (l : List Tok). flat_map (name_cuts new.text) l) (none_in new.toks (f span.first) (f span.last + 1) (omega (arith, g, h)))
          ∙ sym (ap (λ (l : List Tok). flat_map (name_cuts tree.text) l) (none_in tree.toks span.first (span.last + 1) (omega (arith, h))))
      by (inr h) =
          let k : ℕ = span.last - span.first in
          let e : span.first + k ≡ span.last = omega (arith, h) in
          let g = sym (ap f e) ∙ far span.first k a (omega (arith, e, d)) in
          let size : span.last + 1 ≡ span.first + suc k = omega (arith, e) in
          let size' : f span.last + 1 ≡ f span.first + suc k = omega (arith, g) in
          let room = below span.last c d in
          ap (λ (n : ℕ). flat_map (name_cuts new.text) (drop (f span.first) (take n new.toks))) size'
          ∙ ap (λ (l : List Tok). flat_map (name_cuts new.text) l) (window_is new.toks (f span.first) (suc k) (omega (arith, room, size')))
          ∙ slices_same span.first (f span.first) (suc k) a (omega (arith, e, d)) refl
          ∙ sym (ap (λ (l : List Tok). flat_map (name_cuts tree.text) l) (window_is tree.toks span.first (suc k) (omega (arith, e, d, top))))
          ∙ ap (λ (n : ℕ). flat_map (name_cuts tree.text) (drop span.first (take n tree.toks))) (sym size)
