-- The one rule that a text may name by its printed name, by a table in which each name has a slot of its own.
use Rattle.std.specs.Prelude.{ℕ, ◌+◌, ◌*◌, ◌-◌, ◌/◌, ◌%◌, List, length, slice_index, slice_get, Option}
use Rattle.lint_base.specs.declared.rule.Rule.{Rule}
use Rattle.lint_base.specs.declared.rule_slots.TheConstants.{NUMBERS}
use Rattle.lint_base.specs.Rules.{all_rules}

-- the slot of a text
unfoldable pub slot : List ℕ → ℕ
slot text =
    (27 * slice_index text 8 + 105 * slice_index text 9 + 22 * slice_index text (length text - 7)
    + 82 * slice_index text (length text / 2)) % 256

-- the number in a slot
unfoldable pub number_in : ℕ → ℕ
number_in n = slice_index NUMBERS n

-- the rule that a text may name
abbrev pub candidate : List ℕ → Option Rule
candidate text = slice_get all_rules (number_in (slot text))
