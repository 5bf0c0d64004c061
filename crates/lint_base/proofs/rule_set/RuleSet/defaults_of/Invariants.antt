use Rattle.std.proofs.Common.{◌≡◌, filter, not, take}
use Rattle.lint_base.specs.Rules.{is_opt_in}
use Rattle.lint_base.specs.RuleSets.{rules_in}
use Rattle.lint_base.proofs.rule_set.RuleSet.defaults_of.Given as goal

-- the rules so far that are not opt-in
abbrev pub invariant-loop-rule : goal.invariant-loop-rule
invariant-loop-rule l = l.set ≡ rules_in (filter (λ r. not (is_opt_in r)) (take l.rule-index l.rules))
