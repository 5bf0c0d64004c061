-- Sets of rules by line.
use Rattle.std.proofs.Common.{◌≡◌, ℕ, zero, suc, ◌<◌, Bool, true, false, List, [], ◌∷◌, ◌++◌, length, set, refl, sym, ◌∙◌, ap, arith, inl, inr}
use Rattle.std.proofs.lemmas.Bool.{cases_Bool}
use Rattle.std.proofs.lemmas.Bool.Decides.{nat_tests}
use Rattle.std.proofs.lemmas.List.{get_or-set_same, get_or-set_other}
use Rattle.std.specs.Prelude.{◌==◌, ◌&&◌, ◌||◌, Option, Some, None}
use Rattle.lint_base.specs.declared.rule.Rule.{Rule}
use Rattle.lint_base.specs.RuleSets.{Rules, has}
use Rattle.lint_ignore.specs.Lines.{at_line, is_among}

-- a place more changes no line
pub place_more : (lines : List (Option Rules)) (line : ℕ) → at_line (lines ++ None ∷ []) line ≡ at_line lines line
place_more [] zero = refl
place_more [] (suc line) = refl
place_more (x ∷ xs) zero = refl
place_more (x ∷ xs) (suc line) = place_more xs line

or-false : (b : Bool) → b ≡ (b || false)
or-false true = refl
or-false false = refl

-- rules are added to a line
pub rules_added : (old room : List (Option Rules)) (line : ℕ) (all here rules : Rules) → line < length room → ((other : ℕ) → at_line room other ≡ at_line old other)
    → ((rule : Rule) → has here rule ≡ is_among (at_line old line) rule) → ((rule : Rule) → has all rule ≡ (has here rule || has rules rule))
    → (other : ℕ) (rule : Rule) → is_among (at_line (set room line (Some all)) other) rule ≡ (is_among (at_line old other) rule || (line == other && has rules rule))
rules_added old room line all here rules l same known both other rule = elim (cases_Bool (line == other)) [ inl e ↦ this e | inr e ↦ another e ]
  where
    this : (line == other) ≡ true → is_among (at_line (set room line (Some all)) other) rule ≡ (is_among (at_line old other) rule || (line == other && has rules rule))
    this e =
        let is : line ≡ other = grind (arith, nat_tests) in
        ap (λ (n : ℕ). is_among (at_line (set room line (Some all)) n) rule) (sym is)
        ∙ (ap (λ (s : Option Rules). is_among s rule) (get_or-set_same room line (Some all) None l)
        ∙ (both rule ∙ (λ i. (known rule ∙ ap (λ (n : ℕ). is_among (at_line old n) rule) is) i || (sym e i && has rules rule))))

    another : (line == other) ≡ false → is_among (at_line (set room line (Some all)) other) rule ≡ (is_among (at_line old other) rule || (line == other && has rules rule))
    another e =
        ap (λ (s : Option Rules). is_among s rule) (get_or-set_other room line other (Some all) None (λ is. grind (arith, nat_tests)) ∙ same other)
        ∙ (or-false (is_among (at_line old other) rule) ∙ (λ i. is_among (at_line old other) rule || (sym e i && has rules rule)))
