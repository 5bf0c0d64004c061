-- Places and reports where bytes were inserted after a token.
use Rattle.std.specs.Prelude.{ℕ, ◌+◌, nat_lt, nat_le, if◌then◌else◌, map}
use Rattle.std.specs.Option.{option_map}
use Rattle.pass_concurrent.specs.text_pos.Range.{Range}
use Rattle.pass_concurrent.specs.lint_base.declared.edit.Edit.{Edit}
use Rattle.pass_concurrent.specs.lint_base.declared.violation.Violation.{Violation}
use Rattle.pass_concurrent.specs.lint_base.Fixes.{FixValue}

-- where a token starts now that started at x, if w bytes were inserted at a
abbrev pub start_moved : ℕ → ℕ → ℕ → ℕ
start_moved a w x = if nat_lt x a then x else x + w

-- where a token ends now that ended at x: the token that ended at a still ends there
abbrev pub end_moved : ℕ → ℕ → ℕ → ℕ
end_moved a w x = if nat_le x a then x else x + w

abbrev pub range_moved : ℕ → ℕ → Range → Range
range_moved a w r = record { start = start_moved a w r.start; end = end_moved a w r.end }

-- an insertion after a token
abbrev pub insertion_moved : ℕ → ℕ → Edit → Edit
insertion_moved a w e = record e { text_range = record { start = end_moved a w e.text_range.start; end = end_moved a w e.text_range.end } }

-- a fix that inserts
abbrev pub fix_moved : ℕ → ℕ → FixValue → FixValue
fix_moved a w f = record f { edits = map (insertion_moved a w) f.edits }

abbrev pub violation_moved : ℕ → ℕ → Violation → Violation
violation_moved a w v = record v { text_range = range_moved a w v.text_range; fix = option_map (fix_moved a w) v.fix }
