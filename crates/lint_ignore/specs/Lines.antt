-- Sets of rules by line.
use Rattle.std.specs.Prelude.{ℕ, Bool, false, List, Option, Some, None, slice_index_or}
use Rattle.lint_base.specs.declared.rule.Rule.{Rule}
use Rattle.lint_base.specs.RuleSets.{Rules, has}

-- the set of a line, if it was given one
abbrev pub at_line : List (Option Rules) → ℕ → Option Rules
at_line lines line = slice_index_or lines line None

-- a rule is in a set that there may be
abbrev pub is_among : Option Rules → Rule → Bool
is_among None rule = false
is_among (Some rules) rule = has rules rule
