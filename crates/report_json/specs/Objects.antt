-- The object of a finding.
use Rattle.std.specs.Prelude.{ℕ, List, codes, map, Option, Some, None}
use Rattle.lint_report.specs.text_pos.Range.{Range}
use Rattle.serde_json.specs.Data.{Data, array, member, no_members, null, number, object, string, unsigned}
use Rattle.serde_json.specs.View.{items_of}
use Rattle.json_value.specs.Values.{hint_data, text_data}
use Rattle.lint_report.specs.lint_base.declared.edit.Edit.{Edit}
use Rattle.lint_report.specs.declared.report.Report.{Report}
use Rattle.lint_report.specs.declared.report.ReportFix.{ReportFix}
use Rattle.lint_report.specs.Codes.{name_of}
use Rattle.lint_report.specs.FixClasses as classes
use Rattle.json_value.specs.source_file.declared.level.Level.TheVariants as level
use Rattle.json_value.specs.source_file.declared.place.Place.{Place}
use Rattle.json_value.specs.source_file.declared.refusal.Refusal.{Refusal}
use Rattle.json_value.specs.source_file.File.{FileValue, location}
use Rattle.json_value.specs.source_file.Hints.{hint_of}
use Rattle.json_value.specs.source_file.Levels.{word_of}
use Rattle.json_value.specs.source_file.Refusals as refusals

-- a range; its places are bytes, counted from 0
abbrev pub range_object : Range → Data
range_object range = object
    (member (codes "end") (number (unsigned range.end))
    (member (codes "start") (number (unsigned range.start)) no_members))

-- an edit; its places are bytes, counted from 0
abbrev pub edit_object : Edit → Data
edit_object e = object
    (member (codes "end") (number (unsigned e.text_range.end))
    (member (codes "start") (number (unsigned e.text_range.start))
    (member (codes "text") (text_data e.text) no_members)))

-- edits, in order
abbrev pub edits_data : List Edit → Data
edits_data edits = array (items_of (map edit_object edits))

-- a fix with its class, or null
abbrev pub fix_data : Option ReportFix → Data
fix_data None = null
fix_data (Some fix) = object
    (member (codes "class") (string (classes.name_of fix.class))
    (member (codes "edits") (edits_data fix.fix.edits)
    (member (codes "title") (string fix.fix.title) no_members)))

-- a finding between two places of a file of this name: its members in the order of their keys
abbrev pub placed_object : List ℕ → Place → Place → List ℕ → List ℕ → List ℕ → Data → Data → Data → Data → Data → Data
placed_object file first last level name message note help fix range statement = object
    (member (codes "column") (number (unsigned first.column))
    (member (codes "column_end") (number (unsigned last.column))
    (member (codes "file") (string file)
    (member (codes "fix") fix
    (member (codes "help") help
    (member (codes "level") (string level)
    (member (codes "line") (number (unsigned first.line))
    (member (codes "line_end") (number (unsigned last.line))
    (member (codes "message") (string message)
    (member (codes "note") note
    (member (codes "range") range
    (member (codes "rule_name") (string name)
    (member (codes "statement") statement no_members)))))))))))))

-- a finding of a file
abbrev pub finding_object : FileValue → Range → List ℕ → List ℕ → List ℕ → Data → Data → Data → Data → Data
finding_object file range level name message note help fix statement =
    placed_object file.name (location file.text range.start) (location file.text range.end) level name message note help fix
    (range_object range) statement

-- a report
abbrev pub report_object : FileValue → Report → Data
report_object file r =
    finding_object file r.text_range (word_of level.Warning) (name_of r.code) r.message (text_data r.note) (text_data r.help) (fix_data r.fix)
    (range_object r.statement)

-- why a file could not be linted; no statement was read
abbrev pub refusal_object : FileValue → Refusal → Data
refusal_object file r =
    let at = refusals.place_of r in
    finding_object file (record { start = at; end = at }) (word_of level.Error) (refusals.name_of r) (refusals.message_of r) null
    (hint_data (hint_of file.text r)) null null
