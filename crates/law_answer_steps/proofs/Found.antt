-- Reports that are left, from the old list and in the new one.
use Rattle.std.proofs.Common.{◌≡◌, ℕ, ◌⊎◌, inl, inr, Bool, List, [], ◌∷◌}
use Rattle.std.proofs.lemmas.List.Elements.{All-cons, All-nil, All-weaker}
use Rattle.std.specs.Prelude.{All, Contains}
use Rattle.law_fix_steps.specs.lint_base.declared.violation.Violation.{Violation}
use Rattle.law_fix_steps.specs.Kept.{Kept, SameAt}
use Rattle.law_fix_steps.specs.Left.{Carried, Left}
use Rattle.law_answer_steps.proofs.Ordered.{first_there, later_there}

-- some element has R
abbrev pub OneOf : List Violation → (Violation → Type 0) → Type 0
OneOf vs R = (v : Violation) × Contains vs v × R v

later_of : (R : Violation → Type 0) (v : Violation) (vs : List Violation) → OneOf vs R → OneOf (v ∷ vs) R
later_of R v vs h = (h.0, later_there v vs h.0 h.1, h.2)

module _ (exact : Bool) (move : ℕ → ℕ) (gone : ℕ) where
  abbrev pub From : List Violation → Violation → Type 0
  From vs w = OneOf vs (λ v. Carried exact move w v)

  abbrev pub To : List Violation → Violation → Type 0
  To ws v = (v.text_range.start ≡ gone) ⊎ OneOf ws (λ w. Carried exact move w v)

  pub left_from : (ws vs : List Violation) → Left exact move gone ws vs → All (From vs) ws
  left_from [] vs h = All-nil (From vs)
  left_from (w ∷ ws) [] h = absurd h
  left_from (w ∷ ws) (v ∷ vs) (inl h) =
      All-cons (From (v ∷ vs)) w ws (v, first_there v vs, h.0) (All-weaker (From vs) (From (v ∷ vs)) (λ x f. later_of (λ u. Carried exact move x u) v vs f) ws (left_from ws vs h.1))
  left_from (w ∷ ws) (v ∷ vs) (inr h) = All-weaker (From vs) (From (v ∷ vs)) (λ x f. later_of (λ u. Carried exact move x u) v vs f) (w ∷ ws) (left_from (w ∷ ws) vs h.1)

  to_later : (w : Violation) (ws : List Violation) (v : Violation) → To ws v → To (w ∷ ws) v
  to_later w ws v (inl e) = inl e
  to_later w ws v (inr f) = inr (later_of (λ x. Carried exact move x v) w ws f)

  pub left_to : (ws vs : List Violation) → Left exact move gone ws vs → All (To ws) vs
  left_to ws [] h = All-nil (To ws)
  left_to [] (v ∷ vs) h = All-cons (To []) v vs (inl h.0) (left_to [] vs h.1)
  left_to (w ∷ ws) (v ∷ vs) (inl h) = All-cons (To (w ∷ ws)) v vs (inr (w, first_there w ws, h.0)) (All-weaker (To ws) (To (w ∷ ws)) (to_later w ws) vs (left_to ws vs h.1))
  left_to (w ∷ ws) (v ∷ vs) (inr h) = All-cons (To (w ∷ ws)) v vs (inl h.0) (left_to (w ∷ ws) vs h.1)

module _ (move : ℕ → ℕ) where
  abbrev pub KeptFrom : List Violation → Violation → Type 0
  KeptFrom vs w = OneOf vs (λ v. SameAt move w v)

  pub kept_from : (ws vs : List Violation) → Kept move ws vs → All (KeptFrom vs) ws
  kept_from [] vs h = All-nil (KeptFrom vs)
  kept_from (w ∷ ws) [] h = absurd h
  kept_from (w ∷ ws) (v ∷ vs) (inl h) =
      All-cons (KeptFrom (v ∷ vs)) w ws (v, first_there v vs, h.0) (All-weaker (KeptFrom vs) (KeptFrom (v ∷ vs)) (λ x f. later_of (λ u. SameAt move x u) v vs f) ws (kept_from ws vs h.1))
  kept_from (w ∷ ws) (v ∷ vs) (inr h) = All-weaker (KeptFrom vs) (KeptFrom (v ∷ vs)) (λ x f. later_of (λ u. SameAt move x u) v vs f) (w ∷ ws) (kept_from (w ∷ ws) vs h)
