use Rattle.std.proofs.Common.{◌≡◌, [], ◌++◌, Some, map, option_map, take}
use Rattle.lint_report.specs.Codes.{code_named}
use Rattle.squawk_run.specs.squawk_words.Choices.{each}
use Rattle.code_choice.proofs.lists.code_list.Given as goal

-- what is found so far is that of the items so far
abbrev pub invariant-loop-item : goal.invariant-loop-item
invariant-loop-item l = option_map (λ rules. [] ++ rules) (each code_named (map (λ s. s.now) (take l.item-index l.item-items))) ≡ Some l.found.items
