-- What the last line counts.
use Rattle.std.specs.Prelude.{ℕ, ◌+◌, ◌-◌, ◌^◌, min, Bool, List, fold, length, if◌then◌else◌}
use Rattle.checked_file.specs.declared.checked.Checked.{Checked}
use Rattle.checked_file.specs.Answers.{error_count, has_findings, report_count}
use Rattle.report_text.specs.declared.closing.Counts.{Counts}

-- a sum, or else the last number
abbrev pub capped : ℕ → ℕ
capped n = min n (2 ^ 64 - 1)

abbrev pub one_if : Bool → ℕ
one_if b = if b then 1 else 0

-- the counts with one file more
unfoldable pub with_file : Counts → Checked → Counts
with_file counts file = record {
  issues = capped (counts.issues + report_count file.answer);
  errors = capped (counts.errors + error_count file.answer);
  marked = capped (counts.marked + one_if (has_findings file.answer));
  files = counts.files;
}

-- the reports, the statements that could not be parsed and the files that could not be linted, the files of which something is written, and all files
abbrev pub counts_of : List Checked → Counts
counts_of files = fold with_file (record { issues = 0; errors = 0; marked = 0; files = length files }) files
