use Rattle.std.proofs.Common.{◌≡◌, fold, take}
use Rattle.lint_base.specs.RuleSets.{with_rule}
use Rattle.lint_base.proofs.rule_set.RuleSet.insert_with_expansion.Given as goal

-- so far the first of the others were taken in turn
abbrev pub invariant-loop-other : goal.invariant-loop-other
invariant-loop-other l = l.self ≡ fold with_rule l.initial.self (take l.other-index l.other-items)
