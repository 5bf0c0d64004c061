-- Sets of rules.
use Rattle.std.specs.Prelude.{ℕ, ◌<◌, ◌^◌, Bool, ◌==◌, not, List, bit_and, bit_or, drop, filter, fold}
use Rattle.std.specs.Int.{bit_at, bit_not, w128}
use Rattle.lint_base.specs.declared.rule.Rule.{Rule}
use Rattle.lint_base.specs.Rules.{all_rules, is_opt_in, number_of, rule_count}

-- a set of rules: the bit at a rule's number says whether the rule is in it
pub record Rules : Type 0 where
  pub bits : ℕ

-- whether a rule is in a set
unfoldable pub has : Rules → Rule → Bool
has set r = bit_at set.bits (number_of r) == 1

-- a set has bits for rules alone
abbrev pub IsOfRules : Rules → Type 0
IsOfRules set = set.bits < 2 ^ rule_count

-- the set without a rule
abbrev pub no_rules : Rules
no_rules = record { bits = 0 }

-- a set and one more rule
unfoldable pub with_rule : Rules → Rule → Rules
with_rule set r = record { bits = bit_or set.bits (2 ^ number_of r) }

-- a set less a rule
unfoldable pub without_rule : Rules → Rule → Rules
without_rule set r = record { bits = bit_and set.bits (bit_not w128 (2 ^ number_of r)) }

-- the rules of both sets
unfoldable pub both_rules : Rules → Rules → Rules
both_rules a b = record { bits = bit_or a.bits b.bits }

-- the set of the rules in a list
abbrev pub rules_in : List Rule → Rules
rules_in rules = fold with_rule no_rules rules

-- the set of all rules that are not opt-in
abbrev pub default_rules : Rules
default_rules = rules_in (filter (λ r. not (is_opt_in r)) all_rules)

-- the rules in a set, in declaration order, from a number on
abbrev pub rules_from : Rules → ℕ → List Rule
rules_from set number = filter (has set) (drop number all_rules)

-- the rules in a set, in declaration order
abbrev pub rules_of : Rules → List Rule
rules_of set = filter (has set) all_rules
