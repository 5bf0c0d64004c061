use Rattle.std.proofs.Common.{◌≡◌, filter, fold, take}
use Rattle.lint_base.specs.RuleSets.{without_rule}
use Rattle.lint_base.specs.RuleChoice.{is_alias}
use Rattle.lint_base.proofs.rule_choice.remove_aliases.Given as goal

-- so far the aliases among the first of the rules were taken out
abbrev pub invariant-loop-rule : goal.invariant-loop-rule
invariant-loop-rule l = l.set ≡ fold without_rule l.initial.set (filter is_alias (take l.rule-index l.rules))
