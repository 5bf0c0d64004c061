use Rattle.std.proofs.Common.{◌≡◌, [], ◌++◌, Some, map, option_map, take}
use Rattle.lint_base.specs.RuleNames.{rule_named}
use Rattle.squawk_words.specs.Choices.{each}
use Rattle.squawk_words.proofs.values.rule_list.Given as goal

-- the rules so far are those of the items so far
abbrev pub invariant-loop-item : goal.invariant-loop-item
invariant-loop-item l = option_map (λ rules. [] ++ rules) (each rule_named (map (λ s. s.now) (take l.item-index l.item-items))) ≡ Some l.rules.items
