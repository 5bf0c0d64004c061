use Rattle.std.proofs.Common.{◌≡◌, ◌-◌}
use Rattle.lint_base.specs.Rules.{rule_count}
use Rattle.lint_base.specs.RuleSets.{rules_from}
use Rattle.lint_base.proofs.rule_set.RuleSetIterIterator.next.Given as goal

-- none of the rules that were passed over is in the set
abbrev pub invariant-loop-rule : goal.invariant-loop-rule
invariant-loop-rule l = rules_from l.self-inside.set l.self-inside.next ≡ l.fn.self

abbrev pub decreases-loop-rule : goal.decreases-loop-rule
decreases-loop-rule l = rule_count - l.self-inside.next
