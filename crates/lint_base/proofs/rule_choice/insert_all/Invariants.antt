use Rattle.std.proofs.Common.{◌≡◌, fold, take}
use Rattle.lint_base.specs.RuleSets.{with_rule}
use Rattle.lint_base.specs.RuleChoice.{with_expansions}
use Rattle.lint_base.proofs.rule_choice.insert_all.Given as goal

-- so far the first of the rules were taken in turn
abbrev pub invariant-loop-rule : goal.invariant-loop-rule
invariant-loop-rule l = l.set ≡ fold with_rule l.initial.set (with_expansions (take l.rule-index l.rules))
