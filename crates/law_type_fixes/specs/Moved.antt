-- Places and reports where bytes were replaced by others.
use Rattle.std.specs.Prelude.{ℕ, ◌+◌, ◌-◌, nat_lt, if◌then◌else◌, map}
use Rattle.std.specs.Option.{option_map}
use Rattle.pass_data_type.specs.text_pos.Range.{Range}
use Rattle.pass_data_type.specs.lint_base.declared.edit.Edit.{Edit}
use Rattle.pass_data_type.specs.lint_base.declared.violation.Violation.{Violation}
use Rattle.pass_data_type.specs.lint_base.Fixes.{FixValue}

-- The bytes from one place to before another became others, of this number.
pub record Replaced : Type 0 where
  pub from : ℕ
  pub until : ℕ
  pub size : ℕ

-- where the byte at place x is then: only what comes after the replaced bytes is moved
abbrev pub byte_moved : Replaced → ℕ → ℕ
byte_moved r x = if nat_lt x r.until then x else r.from + r.size + (x - r.until)

abbrev pub range_moved : Replaced → Range → Range
range_moved r range = record { start = byte_moved r range.start; end = byte_moved r range.end }

abbrev pub edit_moved : Replaced → Edit → Edit
edit_moved r e = record e { text_range = range_moved r e.text_range }

abbrev pub fix_moved : Replaced → FixValue → FixValue
fix_moved r f = record f { edits = map (edit_moved r) f.edits }

abbrev pub report_moved : Replaced → Violation → Violation
report_moved r v = record v { text_range = range_moved r v.text_range; fix = option_map (fix_moved r) v.fix }
