-- Findings as results of SARIF 2.1.0: 3.8 property bags, 3.27 result, 3.11 message, 3.28 location, 3.55 fix, 3.56 artifactChange, 3.57 replacement.
use Rattle.std.specs.Prelude.{ℕ, Bool, if◌then◌else◌, List, codes, map, Option, Some, None}
use Rattle.std.specs.List.{list_all}
use Rattle.serde_json.specs.Data.{Data, Members, array, item, member, no_items, no_members, null, object, string}
use Rattle.serde_json.specs.View.{items_of}
use Rattle.lint_report.specs.text_pos.Range.{Range}
use Rattle.json_value.specs.Values.{hint_data, text_data}
use Rattle.lint_base.specs.declared.edit.Edit.{Edit}
use Rattle.lint_report.specs.declared.fix_class.FixClass.{FixClass}
use Rattle.lint_report.specs.declared.report.Report.{Report}
use Rattle.lint_report.specs.declared.report.ReportFix.{ReportFix}
use Rattle.lint_report.specs.Codes.{name_of}
use Rattle.lint_report.specs.FixClasses as classes
use Rattle.json_value.specs.source_file.declared.level.Level.TheVariants as level
use Rattle.json_value.specs.source_file.declared.refusal.Refusal.{Refusal}
use Rattle.json_value.specs.source_file.File.{FileValue}
use Rattle.json_value.specs.source_file.Hints.{hint_of}
use Rattle.json_value.specs.source_file.Levels.{word_of}
use Rattle.json_value.specs.source_file.Line.{Text}
use Rattle.json_value.specs.source_file.Refusals as refusals
use Rattle.report_sarif.specs.Places.{artifact_location, is_range_in, physical_location, region}

-- a message, or the text that is put in
abbrev pub text_object : Text → Data
text_object text = object (member (codes "text") (string text) no_members)

-- an array of one
abbrev pub one : Data → Data
one d = array (item d no_items)

-- what is put in, if anything is
abbrev pub inserted : Option Text → Members
inserted None = no_members
inserted (Some text) = member (codes "insertedContent") (text_object text) no_members

-- an edit
abbrev pub replacement : Text → Edit → Data
replacement text e = object (member (codes "deletedRegion") (region text e.text_range) (inserted e.text))

-- every edit is in the text, between characters
abbrev pub are_in_text : Text → List Edit → Bool
are_in_text text edits = list_all (λ e. is_range_in text e.text_range) edits

-- edits, in order
abbrev pub replacements : Text → List Edit → Data
replacements text edits = array (items_of (map (replacement text) edits))

-- what changes in a file, by its edits
abbrev pub changes : Text → Data → Data
changes name edits = one (object
    (member (codes "artifactLocation") (artifact_location name)
    (member (codes "replacements") edits no_members)))

-- the property bag of a fix: how far it can be trusted
abbrev pub fix_properties : FixClass → Data
fix_properties class = object (member (codes "class") (string (classes.name_of class)) no_members)

-- a fix
abbrev pub fix_object : FileValue → ReportFix → Data
fix_object file fix = object
    (member (codes "artifactChanges") (changes file.name (replacements file.text fix.fix.edits))
    (member (codes "description") (text_object fix.fix.title)
    (member (codes "properties") (fix_properties fix.class) no_members)))

-- a fix whose edits are in the text
abbrev pub fixes : FileValue → Option ReportFix → Data
fixes file None = array no_items
fixes file (Some fix) = if are_in_text file.text fix.fix.edits then one (fix_object file fix) else array no_items

-- where a finding is
abbrev pub locations : FileValue → Range → Data
locations file range = one (object (member (codes "physicalLocation") (physical_location file range) no_members))

-- the property bag of a finding: its help, its note and its statement
abbrev pub result_properties : Data → Data → Data → Data
result_properties help note statement = object
    (member (codes "help") help
    (member (codes "note") note
    (member (codes "statement") statement no_members)))

-- a finding
abbrev pub result_object : FileValue → Range → List ℕ → List ℕ → List ℕ → Data → Data → Data
result_object file range level name message fixes properties = object
    (member (codes "fixes") fixes
    (member (codes "level") (string level)
    (member (codes "locations") (locations file range)
    (member (codes "message") (text_object message)
    (member (codes "properties") properties
    (member (codes "ruleId") (string name) no_members))))))

-- a report
abbrev pub report_result : FileValue → Report → Data
report_result file r =
    result_object file r.text_range (word_of level.Warning) (name_of r.code) r.message (fixes file r.fix)
    (result_properties (text_data r.help) (text_data r.note) (region file.text r.statement))

-- why a file could not be linted; no statement was read
abbrev pub refusal_result : FileValue → Refusal → Data
refusal_result file r =
    let at = refusals.place_of r in
    result_object file (record { start = at; end = at }) (word_of level.Error) (refusals.name_of r) (refusals.message_of r) (array no_items)
    (result_properties (hint_data (hint_of file.text r)) null null)
