-- What the formats of one line keep of a finding.
use Rattle.std.specs.Prelude.{◌==◌, ℕ, if◌then◌else◌, List, [], ◌++◌, Option, Some, None, codes}
use Rattle.check_print.specs.Found.{Found}
use Rattle.check_print.specs.source_file.declared.level.Level.{Level}
use Rattle.check_print.specs.source_file.declared.level.Level.TheVariants.{Warning, Error}
use Rattle.check_print.specs.source_file.declared.place.Place.{Place}
use Rattle.check_print.specs.source_file.File.{location}

-- the file's name, the place where the finding begins, its level, its rule or hazard and its message
pub record Kept : Type 0 where
  pub name : List ℕ
  pub line : ℕ
  pub column : ℕ
  pub level : Level
  pub rule : List ℕ
  pub message : List ℕ

abbrev pub kept : Found → Kept
kept f =
    let first = location f.file.text f.range.start in
    record { name = f.file.name; line = first.line; column = first.column; level = f.level; rule = f.rule; message = f.message }

-- ---- annotations of GitHub

-- a note or a help, on a line of its own
abbrev pub detail_line : List ℕ → Option (List ℕ) → List ℕ
detail_line label None = []
detail_line label (Some text) = codes "\n" ++ label ++ codes ": " ++ text

-- a report has its note and its help; what may help with a file that could not be linted is not written
abbrev pub details_of : Level → Option (List ℕ) → Option (List ℕ) → List ℕ
details_of Warning remark help = detail_line (codes "note") remark ++ detail_line (codes "help") help
details_of Error remark help = []

-- the message with its details, as the annotation shows it
abbrev pub annotation : Found → List ℕ
annotation f = f.message ++ details_of f.level f.note f.help

-- the columns of the first and of the last place, where both are on one line
abbrev pub columns_of : Place → Place → Option (ℕ × ℕ)
columns_of first last = if first.line == last.line then Some (first.column, last.column) else None

-- the file's name, the lines on which the finding begins and ends, its columns, its level, its rule or hazard and the annotation's text
pub record KeptCommand : Type 0 where
  pub name : List ℕ
  pub line : ℕ
  pub line_end : ℕ
  pub columns : Option (ℕ × ℕ)
  pub level : Level
  pub rule : List ℕ
  pub text : List ℕ

abbrev pub kept_command : Found → KeptCommand
kept_command f =
    let first = location f.file.text f.range.start in
    let last = location f.file.text f.range.end in
    record {
      name = f.file.name;
      line = first.line;
      line_end = last.line;
      columns = columns_of first last;
      level = f.level;
      rule = f.rule;
      text = annotation f;
    }
