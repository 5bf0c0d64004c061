-- Helps that PostgreSQL refuses.
use Rattle.std.specs.Prelude.{ℕ, ◌==◌, Bool, false, not, ◌&&◌, ◌||◌, if◌then◌else◌, [], codes, length, slice_range, Option, Some, None}
use Rattle.std.specs.List.{position}
use Rattle.lint_base.specs.declared.rule.Rule.TheVariants as rule
use Rattle.lint_base.specs.RuleNames.{same_rule}
use Rattle.lint_report.specs.declared.code.Code.{Code}
use Rattle.lint_report.specs.declared.code.Code.TheVariants as code
use Rattle.source_file.specs.Hints.{begins_with}
use Rattle.source_file.specs.Line.{Text}

-- a blank, a tab or a byte that ends a line
abbrev pub is_space : ℕ → Bool
is_space b = b == 32 || b == 9 || b == 10 || b == 13

abbrev pub is_not_space : ℕ → Bool
is_not_space b = not (is_space b)

abbrev pub from_place : Text → Option ℕ → Text
from_place text None = []
from_place text (Some at) = slice_range text at (length text)

abbrev pub from_space : Text → Text
from_space text = from_place text (position is_space text)

abbrev pub from_letter : Text → Text
from_letter text = from_place text (position is_not_space text)

-- what begins with the second word of a text
unfoldable pub second_word : Text → Text
second_word text = from_letter (from_space text)

-- the constraint that an addition adds, from its kind on: `add constraint name KIND ..` or `add KIND ..`
unfoldable pub added_kind : Text → Text
added_kind text =
    let second = second_word text in
    if begins_with second (codes "constraint") then second_word (second_word second) else second

-- PostgreSQL takes NOT VALID for foreign keys and checks alone: ALTER TABLE of its manual, "ADD table_constraint [ NOT VALID ]"
abbrev pub has_no_not_valid : Text → Bool
has_no_not_valid kind = begins_with kind (codes "unique") || begins_with kind (codes "primary") || begins_with kind (codes "exclude")

-- the report of a constraint that is added without NOT VALID, where it can't have that; no hazard has such a help
unfoldable pub is_refused_help : Code → Text → Bool
is_refused_help (code.Rule r) text = same_rule r rule.ConstraintMissingNotValid && has_no_not_valid (added_kind text)
is_refused_help (code.Hazard h) text = false
