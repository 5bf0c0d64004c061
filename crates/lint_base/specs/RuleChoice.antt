-- Which rules are chosen by lists.
use Rattle.std.specs.Prelude.{◌==◌, Bool, not, ◌&&◌, ◌||◌, List, ◌∷◌, filter, length}
use Rattle.std.specs.List.{flat_map, list_any}
use Rattle.lint_base.specs.declared.rule.Rule.{Rule}
use Rattle.lint_base.specs.RuleNames.{same_rule}
use Rattle.lint_base.specs.RuleSets.{Rules, rules_in}
use Rattle.lint_base.specs.Rules.{all_rules, expansion_of, is_opt_in}

-- whether a rule is an alias, which stands for others
abbrev pub is_alias : Rule → Bool
is_alias r = not (length (expansion_of r) == 0)

-- a rule, followed by those that it stands for
abbrev pub with_expansion : Rule → List Rule
with_expansion r = r ∷ expansion_of r

-- the rules of a list, each followed by those that it stands for
abbrev pub with_expansions : List Rule → List Rule
with_expansions rules = flat_map with_expansion rules

-- whether a rule is in a list, or an alias in the list stands for it
abbrev pub is_named : List Rule → Rule → Bool
is_named rules r = list_any (same_rule r) (with_expansions rules)

-- whether a rule is chosen by what is included and what is excluded: a rule of the default set or an included one,
-- none that is excluded, and no alias
abbrev pub is_chosen : List Rule → List Rule → Rule → Bool
is_chosen include exclude r = (not (is_opt_in r) || is_named include r) && not (is_named exclude r) && not (is_alias r)

-- the set of the rules that pass a test
abbrev pub rules_that : (Rule → Bool) → Rules
rules_that test = rules_in (filter test all_rules)
