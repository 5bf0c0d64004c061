-- A hazard is found by its name, and by no other text; and no rule is.
use Rattle.std.proofs.Common.{◌≡◌, ℕ, Bool, true, false, List, [], ◌∷◌, Some, None, Option, find, refl, inl, inr, ◌↔◌, sym}
use Rattle.std.proofs.lemmas.Bool.{cases_Bool}
use Rattle.std.proofs.lemmas.Slice.Eq.{bytes_eq-Decides}
use Rattle.lint_base.specs.RuleNames.{rule_named, same_rule}
use Rattle.lint_base.specs.Rules.{all_rules, facts_of}
use Rattle.hazard_base.specs.declared.hazard.Hazard.{Hazard}
use Rattle.hazard_base.specs.declared.hazard.Hazard.TheVariants as hazard
use Rattle.hazard_base.specs.Hazards.{all_hazards, hazard_named, is_named, name_of}

-- what is found passes the test
find-passes : {X : Type 0} (p : X → Bool) (xs : List X) (x : X) → find p xs ≡ Some x → p x ≡ true
find-passes p [] x h = cc
find-passes p (y ∷ ys) x h =
    elim (cases_Bool (p y)) [
      | inl holds ↦ let same : y ≡ x = let e : Some y ≡ Some x = rw holds at h in cc in rw (← same) holds
      | inr fails ↦ find-passes p ys x (rw fails at h)
    ]

found : (h : Hazard) → hazard_named (name_of h) ≡ Some h
unfolding hazard_named all_hazards name_of
found hazard.StatementInTransaction = refl
found hazard.TableRewrite = refl
found hazard.ColumnWithCheck = refl
found hazard.BuildUnderTimeout = refl
found hazard.InvalidIndexKept = refl
found hazard.RefreshBlocksReads = refl
found hazard.JsonColumn = refl

named : (text : List ℕ) (h : Hazard) → hazard_named text ≡ Some h → text ≡ name_of h
unfolding hazard_named
named text h e = sym ((bytes_eq-Decides (name_of h) text).0 (find-passes (is_named text) all_hazards h e))

pub found_exactly : (text : List ℕ) (o : Option Hazard) → o ≡ hazard_named text → (h : Hazard) → (o ≡ Some h) ↔ (text ≡ name_of h)
found_exactly text o is h = ((λ e. named text h (let f : hazard_named text ≡ Some h = cc in f)), (λ e. let f : hazard_named (name_of h) ≡ Some h = found h in cc))

-- by comparing each with the name of each rule
pub apart : (h : Hazard) → rule_named (name_of h) ≡ None
unfolding rule_named all_rules facts_of same_rule name_of
apart hazard.StatementInTransaction = refl
apart hazard.TableRewrite = refl
apart hazard.ColumnWithCheck = refl
apart hazard.BuildUnderTimeout = refl
apart hazard.InvalidIndexKept = refl
apart hazard.RefreshBlocksReads = refl
apart hazard.JsonColumn = refl
