-- What the formats for programs keep of a finding.
use Rattle.std.specs.Prelude.{ℕ, List, [], ◌∷◌, ◌++◌, Option, flat_map, map, Result, Ok, Err}
use Rattle.law_printed_lines.specs.check_print.Found.{Found}
use Rattle.law_printed_lines.specs.checked_file.declared.answer.Answer.{Answer}
use Rattle.law_printed_lines.specs.checked_file.declared.answer.Answer.TheVariants.{Reports, Partial, Refused}
use Rattle.law_printed_lines.specs.checked_file.declared.checked.Checked.{Checked}
use Rattle.law_printed_lines.specs.lint_report.declared.report.Report.{Report}
use Rattle.law_printed_lines.specs.lint_report.declared.report.ReportFix.{ReportFix}
use Rattle.law_printed_lines.specs.report_gitlab.Issues.{severity_of}
use Rattle.law_printed_lines.specs.source_file.declared.level.Level.{Level}
use Rattle.law_printed_lines.specs.source_file.declared.place.Place.{Place}
use Rattle.law_printed_lines.specs.source_file.declared.refusal.Refusal.{Refusal}
use Rattle.law_printed_lines.specs.source_file.File.{line_number, location}
use Rattle.law_printed_lines.specs.text_pos.Range.{Range}

-- ---- reports

-- a report, or why a file could not be linted or a statement of it not be parsed
abbrev pub reported_by : Answer → List (Result Report Refusal)
reported_by (Reports reports) = map (λ r. Ok r) reports.items
reported_by (Partial p) = map (λ r. Err r) p.faults.items ++ map (λ r. Ok r) p.reports.items
reported_by (Refused r) = Err r ∷ []

-- those of a file, each with the file's name
abbrev pub reported_in : Checked → List (List ℕ × Result Report Refusal)
reported_in file = map (λ r. (file.name, r)) (reported_by file.answer)

-- those of files, in order
abbrev pub all_reported : List Checked → List (List ℕ × Result Report Refusal)
all_reported files = flat_map reported_in files

-- ---- JSON and SARIF

-- A finding: its file's name; its bytes, and where it begins and ends by line and column; its level, the name of its rule or hazard and its
-- message; its note, its help, its fix and the bytes of its statement, where it has them.
pub record KeptFinding : Type 0 where
  pub name : List ℕ
  pub range : Range
  pub first : Place
  pub last : Place
  pub level : Level
  pub rule : List ℕ
  pub message : List ℕ
  pub note : Option (List ℕ)
  pub help : Option (List ℕ)
  pub fix : Option ReportFix
  pub statement : Option Range

abbrev pub kept_finding : Found → KeptFinding
kept_finding f = record {
  name = f.file.name;
  range = f.range;
  first = location f.file.text f.range.start;
  last = location f.file.text f.range.end;
  level = f.level;
  rule = f.rule;
  message = f.message;
  note = f.note;
  help = f.help;
  fix = f.fix;
  statement = f.statement;
}

-- ---- GitLab

-- the file's name, the line, the severity, the rule or hazard and the message
pub record KeptIssue : Type 0 where
  pub name : List ℕ
  pub line : ℕ
  pub severity : List ℕ
  pub rule : List ℕ
  pub message : List ℕ

abbrev pub kept_issue : Found → KeptIssue
kept_issue f = record {
  name = f.file.name;
  line = line_number f.file.text f.range.start;
  severity = severity_of f.level;
  rule = f.rule;
  message = f.message;
}
