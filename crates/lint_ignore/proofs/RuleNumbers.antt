-- Rules by their numbers, and sets of rules by these.
use Rattle.std.proofs.Common.{◌≡◌, ◌≢◌, ℕ, Bool, true, false, refl, sym, ◌∙◌, ap, get_or, inl, inr, arith}
use Rattle.std.proofs.lemmas.Bool.{cases_eq}
use Rattle.std.proofs.lemmas.Bool.Decides.{nat_tests}
use Rattle.std.proofs.lemmas.List.Folds.{list_any_at}
use Rattle.std.proofs.lemmas.Option.{slice_get_within, get_or_from_slice_get}
use Rattle.std.specs.List.{list_any}
use Rattle.std.specs.Prelude.{◌==◌, ◌||◌}
use Rattle.lint_base.specs.declared.rule.Rule.{Rule}
use Rattle.lint_base.specs.Rules.{all_rules, number_of}
use Rattle.lint_base.specs.RuleSets.{Rules, has, with_rule}
use Rattle.lint_base.proofs.RuleSets.{has-with_rule_same, has-with_rule_other, rule_at-number_of, rule_from_number}

-- each rule is one of all
pub in_all_rules : (q : Rule) → list_any (λ r. number_of q == number_of r) all_rules ≡ true
in_all_rules q =
    let at : get_or all_rules (number_of q) q ≡ q = get_or_from_slice_get all_rules (number_of q) q q (rule_at-number_of q) in
    let same : (number_of q == number_of (get_or all_rules (number_of q) q)) ≡ true = ap (λ (r : Rule). number_of q == number_of r) at ∙ itself (number_of q) in
    list_any_at (λ (r : Rule). number_of q == number_of r) all_rules (number_of q) q (slice_get_within all_rules (number_of q) q (rule_at-number_of q)) same
  where
    itself : (n : ℕ) → (n == n) ≡ true
    itself n = grind (arith, nat_tests)

-- one more rule
pub has-with_rule : (set : Rules) (q r : Rule) → has (with_rule set r) q ≡ (has set q || number_of q == number_of r)
has-with_rule set q r =
    elim (cases_eq (number_of q) (number_of r)) [
      | inl e ↦ at_same (rule_from_number q r e) e
      | inr e ↦ at_other (λ (same : q ≡ r). e (ap number_of same)) e
    ]
  where
    or_yes : (a b : Bool) → b ≡ true → true ≡ (a || b)
    or_yes true b h = refl
    or_yes false b h = sym h

    or_no : (a b : Bool) → b ≡ false → a ≡ (a || b)
    or_no true b h = refl
    or_no false b h = sym h

    yes : (m n : ℕ) → m ≡ n → (m == n) ≡ true
    yes m n e = grind (arith, nat_tests)

    no : (m n : ℕ) → m ≢ n → (m == n) ≡ false
    no m n e = grind (arith, nat_tests)

    at_same : q ≡ r → number_of q ≡ number_of r → has (with_rule set r) q ≡ (has set q || number_of q == number_of r)
    at_same same e = ap (λ (x : Rule). has (with_rule set r) x) same ∙ (has-with_rule_same set r ∙ or_yes (has set q) (number_of q == number_of r) (yes (number_of q) (number_of r) e))

    at_other : q ≢ r → number_of q ≢ number_of r → has (with_rule set r) q ≡ (has set q || number_of q == number_of r)
    at_other differ e = has-with_rule_other set q r differ ∙ or_no (has set q) (number_of q == number_of r) (no (number_of q) (number_of r) e)
