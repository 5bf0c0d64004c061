-- Edits of a text, and fixes.
use Rattle.std.specs.Prelude.{ℕ, Bool, ◌&&◌, List, Some, None, nat_eq}
use Rattle.std.specs.declared.cmp.Ordering.{Ordering}
use Rattle.std.specs.Cmp.Lexicographic.{pointwise, slice_cmp}
use Rattle.std.specs.Option.{option_cmp, option_eq}
use Rattle.std.specs.Ordering.{nat_cmp, on, then_cmp}
use Rattle.text_pos.specs.Range.{Range}
use Rattle.lint_base.specs.declared.edit.Edit.{Edit}

-- the insertion of a text before a place
abbrev pub insertion : List ℕ → ℕ → Edit
insertion text at = record { text_range = record { start = at; end = at }; text = Some text }

-- the replacement of a range by a text
abbrev pub replacement : Range → List ℕ → Edit
replacement text_range text = record { text_range = text_range; text = Some text }

-- the deletion of a range
abbrev pub deletion : Range → Edit
deletion text_range = record { text_range = text_range; text = None }

-- the order of edits: by start, then by end, then by text, an edit without text first
abbrev pub edit_cmp : Edit → Edit → Ordering
edit_cmp = then_cmp (on (λ e. e.text_range.start) nat_cmp) (then_cmp (on (λ e. e.text_range.end) nat_cmp) (on (λ e. e.text) (option_cmp (slice_cmp nat_cmp))))

-- `==` on edits: equal ranges, and equal texts or none
abbrev pub edit_eq : Edit → Edit → Bool
edit_eq a b = (nat_eq a.text_range.start b.text_range.start && nat_eq a.text_range.end b.text_range.end) && option_eq (pointwise nat_eq) a.text b.text
