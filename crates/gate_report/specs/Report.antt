-- What is written of the file that is not accepted.
use Rattle.std.specs.Prelude.{◌≡◌, ℕ, ◌+◌, List, [], ◌++◌, length, codes, decimal, replicate, Option, Some, None, Result, Ok, Err, ⊤}
use Rattle.report_lines.specs.lint_base.declared.rule.Rule.{Rule}
use Rattle.report_lines.specs.lint_base.Rules.{name_of as rule_name}
use Rattle.report_lines.specs.source_file.Columns.{width_of}
use Rattle.report_lines.specs.source_file.declared.place.Place.{Place}
use Rattle.report_lines.specs.source_file.File.{FileValue, line_number, location}
use Rattle.report_lines.specs.source_file.Line.{Text, block_of, front_of}
use Rattle.report_lines.specs.source_file.Escaped.{escaped}
use Rattle.report_lines.specs.source_file.Shown.{shown}
use Rattle.gate_report.specs.declared.cause.Cause.{Cause}
use Rattle.gate_report.specs.Causes.{help_of, message_of, name_of, rule_of}
use Rattle.gate_report.specs.Spots.{spot_of}

abbrev pub blanks : ℕ → List ℕ
blanks count = replicate count 32

-- ---- rows

-- `error[name]: message`
abbrev pub title : List ℕ → List ℕ → List ℕ
title name message = codes "error[" ++ name ++ codes "]: " ++ message ++ codes "\n"

-- ` --> file`
abbrev pub name_row : Text → List ℕ
name_row name = codes " --> " ++ escaped name ++ codes "\n"

-- `:line:column`
unfoldable pub place_part : Place → List ℕ
place_part place = codes ":" ++ decimal place.line ++ codes ":" ++ decimal place.column ++ codes "\n"

-- ` --> file:line:column`
abbrev pub arrow : ℕ → Text → Place → List ℕ
arrow gutter name place = blanks gutter ++ codes "--> " ++ escaped name ++ place_part place

-- `  |`
abbrev pub bar_row : ℕ → List ℕ
bar_row gutter = blanks gutter ++ codes " |\n"

-- `7 | text`
abbrev pub line_row : ℕ → Text → List ℕ
line_row number line = decimal number ++ codes " | " ++ shown line ++ codes "\n"

-- `  |    ^`
abbrev pub caret_row : ℕ → Text → List ℕ
caret_row gutter before = blanks gutter ++ codes " |" ++ blanks (width_of before + 1) ++ codes "^\n"

-- the line of a place, with a caret under it
unfoldable pub excerpt : ℕ → ℕ → Text → ℕ → List ℕ
excerpt gutter number text at = bar_row gutter ++ line_row number (block_of text at at) ++ caret_row gutter (front_of text at)

-- how many columns the number of the line of a place has
abbrev pub gutter_at : Text → ℕ → ℕ
gutter_at text at = length (decimal (line_number text at))

-- a place and its line
unfoldable pub placed : FileValue → ℕ → List ℕ
placed file at = arrow (gutter_at file.text at) file.name (location file.text at) ++ excerpt (gutter_at file.text at) (line_number file.text at) file.text at

-- these were added, and this is how many columns the number has
abbrev pub HasPlaced : {X : Type 0} → Result ℕ X → FileValue → ℕ → List ℕ → List ℕ → Type 0
HasPlaced (Ok gutter) file at old new = (gutter ≡ gutter_at file.text at) × (new ≡ old ++ placed file at)
HasPlaced (Err e) file at old new = ⊤

-- `  = help: what to do`
unfoldable pub help_row : ℕ → List ℕ → List ℕ → List ℕ
help_row gutter command help = bar_row gutter ++ blanks gutter ++ codes " = help: " ++ command ++ help ++ codes "\n"

-- ---- reports

-- where it is, and its line; of a cause without a place the file alone
abbrev pub where_part : FileValue → Option ℕ → List ℕ
where_part file None = name_row file.name
where_part file (Some at) = placed file at

abbrev pub gutter_of : Text → Option ℕ → ℕ
gutter_of text None = 1
gutter_of text (Some at) = gutter_at text at

-- this was added, and this is how many columns the number has
abbrev pub HasWhere : {X : Type 0} → Result ℕ X → FileValue → Option ℕ → List ℕ → List ℕ → Type 0
HasWhere (Ok gutter) file spot old new = (gutter ≡ gutter_of file.text spot) × (new ≡ old ++ where_part file spot)
HasWhere (Err e) file spot old new = ⊤

-- the command that explains a rule, where there is one
abbrev pub command_of : Option Rule → List ℕ
command_of None = []
command_of (Some rule) = codes "`lavkheto explain " ++ rule_name rule ++ codes "` "

-- what is wrong with a file, where, and what to do
abbrev pub printed_refused : FileValue → Cause → List ℕ
printed_refused file cause =
    let spot = spot_of file.text cause in
    title (name_of cause) (message_of cause) ++ where_part file spot ++ help_row (gutter_of file.text spot) (command_of (rule_of cause)) (help_of cause) ++ codes "\n"
