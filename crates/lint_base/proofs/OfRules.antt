-- Sets that have bits for rules alone: those with the same rules are one set.
use Rattle.std.proofs.Common.{◌≡◌, ℕ, ◌<◌, ◌^◌, List, [], ◌∷◌, fold, get_or, length, refl, ap, arith, lit<}
use Rattle.std.specs.Prelude.{◌==◌}
use Rattle.std.specs.Int.{bit_at, bit_not, w128}
use Rattle.std.proofs.Math.Pow.{pow-lt}
use Rattle.std.proofs.lemmas.Nat.{and_le_l, or_lt}
use Rattle.std.proofs.lemmas.Nat.Bits.{bit_at-lt, same_from_bits_below}
use Rattle.std.proofs.lemmas.Bool.Decides.{nat_tests}
use Rattle.lint_base.specs.declared.rule.Rule.{Rule}
use Rattle.lint_base.specs.declared.rule.Rule.TheVariants as rule
use Rattle.lint_base.specs.RuleSets.{IsOfRules, Rules, both_rules, has, no_rules, rules_in, with_rule, without_rule}
use Rattle.lint_base.specs.Rules.{all_rules, number_of, rule_count}
use Rattle.lint_base.proofs.RuleSets.{number_of-at, number_of-lt}

-- ---- how sets are made

pub none_is_of_rules : IsOfRules no_rules
none_is_of_rules = lit< tt

pub with_is_of_rules : (set : Rules) (r : Rule) → IsOfRules set → IsOfRules (with_rule set r)
unfolding with_rule
with_is_of_rules set r h = or_lt rule_count set.bits (2 ^ number_of r) h (pow-lt (number_of-lt r))

pub without_is_of_rules : (set : Rules) (r : Rule) → IsOfRules set → IsOfRules (without_rule set r)
unfolding without_rule
without_is_of_rules set r h = omega (arith, and_le_l set.bits (bit_not w128 (2 ^ number_of r)))

pub both_are_of_rules : (a b : Rules) → IsOfRules a → IsOfRules b → IsOfRules (both_rules a b)
unfolding both_rules
both_are_of_rules a b h k = or_lt rule_count a.bits b.bits h k

pub put_is_of_rules : (rules : List Rule) (set : Rules) → IsOfRules set → IsOfRules (fold with_rule set rules)
put_is_of_rules [] set h = h
put_is_of_rules (r ∷ rules) set h = put_is_of_rules rules (with_rule set r) (with_is_of_rules set r h)

pub taken_is_of_rules : (rules : List Rule) (set : Rules) → IsOfRules set → IsOfRules (fold without_rule set rules)
taken_is_of_rules [] set h = h
taken_is_of_rules (r ∷ rules) set h = taken_is_of_rules rules (without_rule set r) (without_is_of_rules set r h)

pub put_rules : (rules : List Rule) → IsOfRules (rules_in rules)
put_rules rules = put_is_of_rules rules no_rules none_is_of_rules

-- ---- the same rules

same_bit : (a b : ℕ) → a < 2 → b < 2 → (a == 1) ≡ (b == 1) → a ≡ b
same_bit a b l m e = grind (arith, nat_tests)

pub same_rules : (a b : Rules) → IsOfRules a → IsOfRules b → ((r : Rule) → has a r ≡ has b r) → a ≡ b
unfolding has
same_rules a b la lb same =
    let bits : a.bits ≡ b.bits = same_from_bits_below rule_count a.bits b.bits la lb (λ i l. same_bit _ _ (bit_at-lt a.bits i) (bit_at-lt b.bits i) (each_bit i l)) in
    ap (λ n. record { bits = n }) bits
  where
    each_bit : (i : ℕ) → i < rule_count → (bit_at a.bits i == 1) ≡ (bit_at b.bits i == 1)
    each_bit i l = rw (number_of-at i rule.UnusedIgnore l) at (same (get_or all_rules i rule.UnusedIgnore))

-- ---- how many rules there are

pub all_counted : length all_rules ≡ rule_count
unfolding all_rules
all_counted = refl
