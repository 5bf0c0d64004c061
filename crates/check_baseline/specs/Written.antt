-- The baseline that knows all reports of some files.
use Rattle.std.specs.Prelude.{List, ◌++◌, codes}
use Rattle.std.specs.List.{flat_map}
use Rattle.checked_file.specs.declared.answer.Answer.{Answer}
use Rattle.checked_file.specs.declared.answer.Answer.TheVariants.{Reports, Refused}
use Rattle.checked_file.specs.declared.answer.Answer.TheVariants as answer
use Rattle.checked_file.specs.declared.answer.Partial.{Partial}
use Rattle.checked_file.specs.declared.checked.Checked.{Checked}
use Rattle.checked_file.specs.Files.{readable_of}
use Rattle.checked_file.specs.lint_report.declared.report.Report.{Report}
use Rattle.checked_file.specs.lint_report.Codes.{name_of}
use Rattle.checked_file.specs.source_file.declared.refusal.Refusal.{Refusal}
use Rattle.checked_file.specs.source_file.Refusals.{message_of}
use Rattle.checked_file.specs.source_file.Escaped.{escaped}
use Rattle.check_baseline.specs.Known.{Text}
use Rattle.report_gitlab.specs.Issues.{report_fingerprint}

-- what comes before the first line
abbrev pub heading : Text
heading = codes "# Reports that lavkheto lets pass: fingerprint, rule, file. Written by --write-baseline.\n"

-- the line of a report: its fingerprint, and for people the rule and the file, as it is written on a line
unfoldable pub report_line : Text → Text → Report → Text
report_line name text v = report_fingerprint name text v ++ codes " " ++ name_of v.code ++ codes " " ++ escaped name ++ codes "\n"

unfoldable pub refusal_mark : Text
refusal_mark = codes "# not linted: "

-- the comment on a file, or on a statement of it, that could not be linted, for people
unfoldable pub refusal_line : Text → Refusal → Text
refusal_line name r = refusal_mark ++ escaped name ++ codes ": " ++ message_of r ++ codes "\n"

-- a comment for each statement that could not be parsed, and then the lines of reports
abbrev pub partial_lines : Text → Text → Partial → Text
partial_lines name text p = flat_map (refusal_line name) p.faults.items ++ flat_map (report_line name text) p.reports.items

-- the lines of an answer
abbrev pub answer_lines : Text → Text → Answer → Text
answer_lines name text (Reports reports) = flat_map (report_line name text) reports.items
answer_lines name text (answer.Partial p) = partial_lines name text p
answer_lines name text (Refused r) = refusal_line name r

unfoldable pub file_lines : Checked → Text
file_lines file = answer_lines file.name (readable_of file.bytes.items) file.answer

-- the whole text
abbrev pub written : List Checked → Text
written files = heading ++ flat_map file_lines files
