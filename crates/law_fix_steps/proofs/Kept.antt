-- Laws of reports that stay.
use Rattle.std.proofs.Common.{◌≡◌, ℕ, zero, suc, ◌<◌, ◌≤◌, inl, inr, Bool, true, false, cond, List, [], ◌∷◌, ◌++◌, map, length, sym, refl, ◌∙◌, subst, arith}
use Rattle.std.proofs.lemmas.List.Elements.{All-head, All-tail}
use Rattle.std.specs.Prelude.{All}
use Rattle.law_type_fixes.specs.lint_base.declared.violation.Violation.{Violation}
use Rattle.law_type_fixes.specs.lint_transaction.Earlier.{concat_below}
use Rattle.law_type_fixes.specs.lint_pass.Those.{that, those}
use Rattle.law_fix_steps.specs.Kept.{SameAt, Kept}

module _ (move : ℕ → ℕ) where
  abbrev K : List Violation → List Violation → Type 0
  K ws vs = Kept move ws vs

  -- one more may be gone
  pub kept_skip : (ws : List Violation) (v : Violation) (vs : List Violation) → K ws vs → K ws (v ∷ vs)
  kept_skip [] v vs h = tt
  kept_skip (w ∷ ws) v vs h = inr h

  pub kept_after : (xs ws vs : List Violation) → K ws vs → K ws (xs ++ vs)
  kept_after [] ws vs h = h
  kept_after (x ∷ xs) ws vs h = kept_skip ws x (xs ++ vs) (kept_after xs ws vs h)

  pub kept_append : (ws vs ws' vs' : List Violation) → K ws vs → K ws' vs' → K (ws ++ ws') (vs ++ vs')
  kept_append [] vs ws' vs' h k = kept_after vs ws' vs' k
  kept_append (w ∷ ws) [] ws' vs' h k = absurd h
  kept_append (w ∷ ws) (v ∷ vs) ws' vs' (inl h) k = inl (h.0, kept_append ws vs ws' vs' h.1 k)
  kept_append (w ∷ ws) (v ∷ vs) ws' vs' (inr h) k = inr (kept_append (w ∷ ws) vs ws' vs' h k)

  pub kept_length : (ws vs : List Violation) → K ws vs → length ws ≤ length vs
  kept_length [] vs h = omega arith
  kept_length (w ∷ ws) [] h = absurd h
  kept_length (w ∷ ws) (v ∷ vs) (inl h) = let r = kept_length ws vs h.1 in omega (arith, r)
  kept_length (w ∷ ws) (v ∷ vs) (inr h) = let r = kept_length (w ∷ ws) vs h in omega (arith, r)

  -- One is gone, where none is at its place.
  pub kept_less : (ws pre : List Violation) (v : Violation) (post : List Violation) → K ws (pre ++ v ∷ post) → All (λ w. SameAt move w v → ⊥) ws → length ws < length (pre ++ v ∷ post)
  kept_less [] [] v post h none = omega arith
  kept_less [] (u ∷ pre) v post h none = omega arith
  kept_less (w ∷ ws) [] v post (inl h) none = absurd (All-head (λ w. SameAt move w v → ⊥) w ws none h.0)
  kept_less (w ∷ ws) [] v post (inr h) none = let r = kept_length (w ∷ ws) post h in omega (arith, r)
  kept_less (w ∷ ws) (u ∷ pre) v post (inl h) none = let r = kept_less ws pre v post h.1 (All-tail (λ w. SameAt move w v → ⊥) w ws none) in omega (arith, r)
  kept_less (w ∷ ws) (u ∷ pre) v post (inr h) none = let r = kept_less (w ∷ ws) pre v post h none in omega (arith, r)

  pub kept_where : (b : Bool) (ws vs : List Violation) → K ws vs → K (cond b ws []) (cond b vs [])
  kept_where true ws vs h = h
  kept_where false ws vs h = tt

  pub kept_one : (w v : Violation) → SameAt move w v → K (w ∷ []) (v ∷ [])
  kept_one w v h = inl (h, tt)

  -- ---- of the nodes that pass

  -- a node passes only if it passed before, and its report is at the same place then
  pub record NodeKept {N : Type 0} (test test' : N → Bool) (report report' : N → Violation) (y x : N) : Type 0 where
    pub passed : test' y ≡ true → test x ≡ true
    pub same : test' y ≡ true → SameAt move (report' y) (report x)

  pub that_kept : {N : Type 0} (test test' : N → Bool) (report report' : N → Violation) (y x : N) → NodeKept test test' report report' y x → K (that test' report' y) (that test report x)
  that_kept test test' report report' y x h = by (test' y) refl
    where
      by : (b : Bool) → test' y ≡ b → K (cond b (report' y ∷ []) []) (cond (test x) (report x ∷ []) [])
      by false e = tt
      by true e = subst (λ (c : Bool). K (report' y ∷ []) (cond c (report x ∷ []) [])) (sym (h.passed e)) (kept_one (report' y) (report x) (h.same e))

  pub those_kept : {N : Type 0} (test test' : N → Bool) (report report' : N → Violation) (g : N → N) (xs : List N) → All (λ x. NodeKept test test' report report' (g x) x) xs →
      K (those test' report' (map g xs)) (those test report xs)
  those_kept test test' report report' g [] h = tt
  those_kept test test' report report' g (x ∷ xs) h =
      kept_append (that test' report' (g x)) (that test report x) (those test' report' (map g xs)) (those test report xs)
      (that_kept test test' report report' (g x) x (All-head (λ x. NodeKept test test' report report' (g x) x) x xs h))
      (those_kept test test' report report' g xs (All-tail (λ x. NodeKept test test' report report' (g x) x) x xs h))

  -- ---- statement by statement

  pub pieces_kept : (F G : ℕ → List Violation) (n : ℕ) → ((i : ℕ) → K (F i) (G i)) → K (concat_below F n) (concat_below G n)
  pieces_kept F G zero h = tt
  pieces_kept F G (suc n) h = kept_append (concat_below F n) (concat_below G n) (F n) (G n) (pieces_kept F G n h) (h n)

  -- with one statement in front, of which nothing is reported
  pub shifted_kept : (F G : ℕ → List Violation) (n : ℕ) → F 0 ≡ [] → ((i : ℕ) → K (F (suc i)) (G i)) → K (concat_below F (suc n)) (concat_below G n)
  shifted_kept F G zero none h = subst (λ (l : List Violation). K l []) (sym none) tt
  shifted_kept F G (suc n) none h = kept_append (concat_below F (suc n)) (concat_below G n) (F (suc n)) (G n) (shifted_kept F G n none h) (h n)

-- The same by moves that agree.
pub kept_by : (f g : ℕ → ℕ) → ((x : ℕ) → f x ≡ g x) → (ws vs : List Violation) → Kept f ws vs → Kept g ws vs
kept_by f g same [] vs h = tt
kept_by f g same (w ∷ ws) [] h = absurd h
kept_by f g same (w ∷ ws) (v ∷ vs) (inl h) = inl (record { code = h.0.code; place = h.0.place ∙ same v.text_range.start }, kept_by f g same ws vs h.1)
kept_by f g same (w ∷ ws) (v ∷ vs) (inr h) = inr (kept_by f g same (w ∷ ws) vs h)
