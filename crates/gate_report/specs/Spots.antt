-- Where in its text a cause is shown.
use Rattle.std.specs.Prelude.{ℕ, ◌==◌, Bool, ◌||◌, length, nat_le, nat_lt, slice_index, Option, Some, None, if◌then◌else◌}
use Rattle.report_lines.specs.source_file.Line.{Text}
use Rattle.gate_report.specs.declared.cause.Cause.{Cause}
use Rattle.gate_report.specs.Causes.{place_of}

-- a character of the text begins at this byte, or the text ends there
abbrev pub is_between : Text → ℕ → Bool
is_between text at = if nat_lt at (length text) then nat_lt (slice_index text at) 128 || nat_le 192 (slice_index text at) else at == length text

abbrev pub spot_at : Text → Option ℕ → Option ℕ
spot_at text None = None
spot_at text (Some at) = if is_between text at then Some at else None

-- the place of the cause, where it has one and the text may be cut there
abbrev pub spot_of : Text → Cause → Option ℕ
spot_of text cause = spot_at text (place_of cause)
