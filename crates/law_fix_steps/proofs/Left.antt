-- Laws of reports that are left.
use Rattle.std.proofs.Common.{◌≡◌, ℕ, zero, suc, inl, inr, Bool, true, false, cond, List, [], ◌∷◌, ◌++◌, map, sym, refl, ◌∙◌, subst}
use Rattle.std.proofs.lemmas.List.Elements.{All-head, All-tail}
use Rattle.std.specs.Prelude.{All}
use Rattle.law_type_fixes.specs.lint_base.declared.violation.Violation.{Violation}
use Rattle.law_type_fixes.specs.lint_transaction.Earlier.{concat_below}
use Rattle.law_type_fixes.specs.lint_pass.Those.{that, those}
use Rattle.law_fix_steps.specs.Kept.{Kept}
use Rattle.law_fix_steps.specs.Left.{Carried, Left}

-- it begins there
abbrev pub BeginsAt : ℕ → Violation → Type 0
BeginsAt place v = v.text_range.start ≡ place

module _ (exact : Bool) (move : ℕ → ℕ) (gone : ℕ) where
  abbrev L : List Violation → List Violation → Type 0
  L ws vs = Left exact move gone ws vs

  pub left_skip : (ws : List Violation) (v : Violation) (vs : List Violation) → BeginsAt gone v → L ws vs → L ws (v ∷ vs)
  left_skip [] v vs e h = (e, h)
  left_skip (w ∷ ws) v vs e h = inr (e, h)

  pub left_after : (xs ws vs : List Violation) → All (BeginsAt gone) xs → L ws vs → L ws (xs ++ vs)
  left_after [] ws vs all h = h
  left_after (x ∷ xs) ws vs all h = left_skip ws x (xs ++ vs) (All-head (BeginsAt gone) x xs all) (left_after xs ws vs (All-tail (BeginsAt gone) x xs all) h)

  pub left_append : (ws vs ws' vs' : List Violation) → L ws vs → L ws' vs' → L (ws ++ ws') (vs ++ vs')
  left_append [] [] ws' vs' h k = k
  left_append [] (v ∷ vs) ws' vs' h k = left_skip ws' v (vs ++ vs') h.0 (left_append [] vs ws' vs' h.1 k)
  left_append (w ∷ ws) [] ws' vs' h k = absurd h
  left_append (w ∷ ws) (v ∷ vs) ws' vs' (inl h) k = inl (h.0, left_append ws vs ws' vs' h.1 k)
  left_append (w ∷ ws) (v ∷ vs) ws' vs' (inr h) k = inr (h.0, left_append (w ∷ ws) vs ws' vs' h.1 k)

  pub left_kept : (ws vs : List Violation) → L ws vs → Kept move ws vs
  left_kept [] vs h = tt
  left_kept (w ∷ ws) [] h = absurd h
  left_kept (w ∷ ws) (v ∷ vs) (inl h) = inl (h.0.same, left_kept ws vs h.1)
  left_kept (w ∷ ws) (v ∷ vs) (inr h) = inr (left_kept (w ∷ ws) vs h.1)

  pub left_where : (b : Bool) (ws vs : List Violation) → L ws vs → L (cond b ws []) (cond b vs [])
  left_where true ws vs h = h
  left_where false ws vs h = tt

  pub left_one : (w v : Violation) → Carried exact move w v → L (w ∷ []) (v ∷ [])
  left_one w v h = inl (h, tt)

  -- none is left
  pub none_left : (ws vs : List Violation) → ws ≡ [] → All (BeginsAt gone) vs → L ws vs
  none_left ws vs e all = subst (λ (l : List Violation). L l vs) (sym e) (of_none vs all)
    where
      of_none : (vs : List Violation) → All (BeginsAt gone) vs → L [] vs
      of_none [] all = tt
      of_none (v ∷ vs) all = (All-head (BeginsAt gone) v vs all, of_none vs (All-tail (BeginsAt gone) v vs all))

  -- there were none
  pub nil_left : (ws vs : List Violation) → ws ≡ [] → vs ≡ [] → L ws vs
  nil_left ws vs e f = subst (λ (l : List Violation). L l vs) (sym e) (subst (λ (l : List Violation). L [] l) (sym f) tt)

  -- ---- of the nodes that pass

  -- a node passes where it passed before, and its report is carried
  pub record NodeLeft {N : Type 0} (test test' : N → Bool) (report report' : N → Violation) (y x : N) : Type 0 where
    pub passed : test' y ≡ test x
    pub carried : test x ≡ true → Carried exact move (report' y) (report x)

  pub that_left : {N : Type 0} (test test' : N → Bool) (report report' : N → Violation) (y x : N) → NodeLeft test test' report report' y x → L (that test' report' y) (that test report x)
  that_left test test' report report' y x h = subst (λ (b : Bool). L (cond b (report' y ∷ []) []) (cond (test x) (report x ∷ []) [])) (sym h.passed) (by (test x) h.carried)
    where
      by : (b : Bool) → (b ≡ true → Carried exact move (report' y) (report x)) → L (cond b (report' y ∷ []) []) (cond b (report x ∷ []) [])
      by false c = tt
      by true c = left_one (report' y) (report x) (c refl)

  pub those_left : {N : Type 0} (test test' : N → Bool) (report report' : N → Violation) (g : N → N) (xs : List N) → All (λ x. NodeLeft test test' report report' (g x) x) xs →
      L (those test' report' (map g xs)) (those test report xs)
  those_left test test' report report' g [] h = tt
  those_left test test' report report' g (x ∷ xs) h =
      left_append (that test' report' (g x)) (that test report x) (those test' report' (map g xs)) (those test report xs)
      (that_left test test' report report' (g x) x (All-head (λ x. NodeLeft test test' report report' (g x) x) x xs h))
      (those_left test test' report report' g xs (All-tail (λ x. NodeLeft test test' report report' (g x) x) x xs h))

  -- ---- statement by statement

  pub pieces_left : (F G : ℕ → List Violation) (n : ℕ) → ((i : ℕ) → L (F i) (G i)) → L (concat_below F n) (concat_below G n)
  pieces_left F G zero h = tt
  pieces_left F G (suc n) h = left_append (concat_below F n) (concat_below G n) (F n) (G n) (pieces_left F G n h) (h n)

  -- with one statement in front, of which nothing is reported
  pub shifted_left : (F G : ℕ → List Violation) (n : ℕ) → F 0 ≡ [] → ((i : ℕ) → L (F (suc i)) (G i)) → L (concat_below F (suc n)) (concat_below G n)
  shifted_left F G zero none h = subst (λ (l : List Violation). L l []) (sym none) tt
  shifted_left F G (suc n) none h = left_append (concat_below F (suc n)) (concat_below G n) (F (suc n)) (G n) (shifted_left F G n none h) (h n)

-- The same by moves that agree.
pub left_by : (exact : Bool) (f g : ℕ → ℕ) → ((x : ℕ) → f x ≡ g x) → (gone : ℕ) (ws vs : List Violation) → Left exact f gone ws vs → Left exact g gone ws vs
left_by exact f g same gone [] [] h = tt
left_by exact f g same gone [] (v ∷ vs) h = (h.0, left_by exact f g same gone [] vs h.1)
left_by exact f g same gone (w ∷ ws) [] h = absurd h
left_by exact f g same gone (w ∷ ws) (v ∷ vs) (inl h) =
    inl (record { same = record { code = h.0.same.code; place = h.0.same.place ∙ same v.text_range.start }; fix = h.0.fix }, left_by exact f g same gone ws vs h.1)
left_by exact f g same gone (w ∷ ws) (v ∷ vs) (inr h) = inr (h.0, left_by exact f g same gone (w ∷ ws) vs h.1)
