-- The findings of files, in order: what is printed of a run is printed of these.
use Rattle.std.specs.Prelude.{ℕ, List, [], ◌∷◌, ◌++◌, Option, Some, None, flat_map, map, option_map}
use Rattle.checked_file.specs.declared.answer.Answer.{Answer}
use Rattle.checked_file.specs.declared.answer.Answer.TheVariants.{Reports, Partial, Refused}
use Rattle.checked_file.specs.declared.checked.Checked.{Checked}
use Rattle.checked_file.specs.lint_report.declared.report.Report.{Report}
use Rattle.checked_file.specs.lint_report.declared.report.ReportFix.{ReportFix}
use Rattle.checked_file.specs.lint_report.Codes.{name_of}
use Rattle.checked_file.specs.source_file.declared.level.Level.{Level}
use Rattle.checked_file.specs.source_file.declared.level.Level.TheVariants as levels
use Rattle.checked_file.specs.source_file.declared.refusal.Refusal.{Refusal}
use Rattle.checked_file.specs.source_file.File.{FileValue}
use Rattle.checked_file.specs.source_file.Hints.{hint_of, text_of}
use Rattle.checked_file.specs.source_file.Refusals as refusals
use Rattle.checked_file.specs.text_pos.Range.{Range}
use Rattle.check_print.specs.Printed.{read_as, source_of}

-- A finding: its file, its range, its level, the name of its rule or hazard and its message; its note, its help, its fix and the range of
-- its statement, where it has them.
pub record Found : Type 0 where
  pub file : FileValue
  pub range : Range
  pub level : Level
  pub rule : List ℕ
  pub message : List ℕ
  pub note : Option (List ℕ)
  pub help : Option (List ℕ)
  pub fix : Option ReportFix
  pub statement : Option Range

-- a report
abbrev pub found_report : FileValue → Report → Found
found_report file v = record {
  file = file;
  range = v.text_range;
  level = levels.Warning;
  rule = name_of v.code;
  message = v.message;
  note = v.note;
  help = v.help;
  fix = v.fix;
  statement = Some v.statement;
}

-- why a file could not be linted, or a statement of it not be parsed
abbrev pub found_refusal : FileValue → Refusal → Found
found_refusal file r = record {
  file = file;
  range = record { start = refusals.place_of r; end = refusals.place_of r };
  level = levels.Error;
  rule = refusals.name_of r;
  message = refusals.message_of r;
  note = None;
  help = option_map text_of (hint_of file.text r);
  fix = None;
  statement = None;
}

abbrev pub found_by : FileValue → Answer → List Found
found_by file (Reports reports) = map (found_report file) reports.items
found_by file (Partial p) = map (found_refusal (read_as file p)) p.faults.items ++ map (found_report file) p.reports.items
found_by file (Refused r) = found_refusal file r ∷ []

-- the findings of a file
abbrev pub found_in : Checked → List Found
found_in file = found_by (source_of file) file.answer

-- those of files, in order
abbrev pub all_found : List Checked → List Found
all_found files = flat_map found_in files
