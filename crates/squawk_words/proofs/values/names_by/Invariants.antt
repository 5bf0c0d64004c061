use Rattle.std.proofs.Common.{◌≡◌, ◌++◌, map, option_map, Some, take}
use Rattle.lint_base.specs.Settings.{standard_names}
use Rattle.squawk_words.specs.Choices.{each, full_item}
use Rattle.squawk_words.proofs.values.names_by.Given as goal

-- the names so far are the standard ones and the items so far
abbrev pub invariant-loop-item : goal.invariant-loop-item
invariant-loop-item l =
    option_map (λ names. standard_names ++ names) (each full_item (map (λ s. s.now) (take l.item-index l.item-items))) ≡ Some l.names
