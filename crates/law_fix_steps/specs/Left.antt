-- Reports that are left when a fix was made, with their fixes: all but those at one place.
use Rattle.std.specs.Prelude.{◌≡◌, ◌⊎◌, ℕ, ◌+◌, Bool, true, List, [], ◌∷◌, Option, Some, None}
use Rattle.law_type_fixes.specs.lint_base.declared.edit.Edit.{Edit}
use Rattle.law_type_fixes.specs.lint_base.declared.violation.Violation.{Violation}
use Rattle.law_type_fixes.specs.lint_base.Fixes.{FixValue}
use Rattle.law_fix_steps.specs.Kept.{SameAt}

-- The edit e puts the text of d, and is as far from one place as d is from another.
pub record EditFollows (place other : ℕ) (e d : Edit) : Type 0 where
  pub text : e.text ≡ d.text
  pub start : e.text_range.start + other ≡ d.text_range.start + place
  pub end : e.text_range.end + other ≡ d.text_range.end + place

-- So it is of the edits of two fixes, one by one.
abbrev pub EditsFollow : ℕ → ℕ → List Edit → List Edit → Type 0
EditsFollow place other [] [] = Unit {0}
EditsFollow place other [] (d ∷ ds) = ⊥
EditsFollow place other (e ∷ es) [] = ⊥
EditsFollow place other (e ∷ es) (d ∷ ds) = EditFollows place other e d × EditsFollow place other es ds

-- There is no fix, or the edits are as far from these places.
abbrev pub FixFollows : ℕ → ℕ → Option FixValue → Option FixValue → Type 0
FixFollows place other None None = Unit {0}
FixFollows place other None (Some g) = ⊥
FixFollows place other (Some f) None = ⊥
FixFollows place other (Some f) (Some g) = EditsFollow place other f.edits g.edits

-- The report w is of the rule of v, and begins where v began, moved. Where it is to be exact, its fix keeps its distance.
pub record Carried (exact : Bool) (move : ℕ → ℕ) (w v : Violation) : Type 0 where
  pub same : SameAt move w v
  pub fix : exact ≡ true → FixFollows w.text_range.start v.text_range.start w.fix v.fix

-- The reports ws are the reports vs, in their order, each carried, without some of those that begin at the place `gone`.
abbrev pub Left : Bool → (ℕ → ℕ) → ℕ → List Violation → List Violation → Type 0
Left exact move gone [] [] = Unit {0}
Left exact move gone [] (v ∷ vs) = (v.text_range.start ≡ gone) × Left exact move gone [] vs
Left exact move gone (w ∷ ws) [] = ⊥
Left exact move gone (w ∷ ws) (v ∷ vs) = (Carried exact move w v × Left exact move gone ws vs) ⊎ ((v.text_range.start ≡ gone) × Left exact move gone (w ∷ ws) vs)
