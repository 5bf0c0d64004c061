-- What is printed of a finding for programs.
use Rattle.std.specs.Prelude.{ℕ, List, Option, Some, None, slice_range}
use Rattle.law_printed_lines.specs.check_print.Found.{Found}
use Rattle.law_printed_lines.specs.json_value.Values.{text_data}
use Rattle.law_printed_lines.specs.report_gitlab.Issues.{issue_object}
use Rattle.law_printed_lines.specs.report_json.Objects as json
use Rattle.law_printed_lines.specs.report_sarif.Places.{region}
use Rattle.law_printed_lines.specs.report_sarif.Results as sarif
use Rattle.serde_json.specs.Data.{Data, Members, array, boolean, no_members, null, number, object, string}
use Rattle.law_printed_lines.specs.source_file.File.{line_number}
use Rattle.law_printed_lines.specs.source_file.Levels.{word_of}
use Rattle.law_printed_lines.specs.source_file.Line.{rest_of}
use Rattle.law_printed_lines.specs.text_pos.Range.{Range}

-- ---- the statement

abbrev pub range_data : Option Range → Data
range_data None = null
range_data (Some range) = json.range_object range

abbrev pub region_data : List ℕ → Option Range → Data
region_data text None = null
region_data text (Some range) = region text range

-- where there is none, what is on the line from a place on
abbrev part_of : List ℕ → ℕ → Option Range → List ℕ
part_of text at None = rest_of text at
part_of text at (Some range) = slice_range text range.start range.end

-- ---- the finding

-- the object of JSON
abbrev pub object_of : Found → Data
object_of f =
    json.finding_object f.file f.range (word_of f.level) f.rule f.message (text_data f.note) (text_data f.help) (json.fix_data f.fix)
    (range_data f.statement)

-- the result of SARIF
abbrev pub result_of : Found → Data
result_of f =
    sarif.result_object f.file f.range (word_of f.level) f.rule f.message (sarif.fixes f.file f.fix)
    (sarif.result_properties (text_data f.help) (text_data f.note) (region_data f.file.text f.statement))

-- the issue of GitLab
abbrev pub issue_of : Found → Data
issue_of f = issue_object f.file (line_number f.file.text f.range.start) f.level f.rule f.message (part_of f.file.text f.range.start f.statement)

-- the members of an object
abbrev pub members_in : Data → Members
members_in null = no_members
members_in (boolean b) = no_members
members_in (number n) = no_members
members_in (string s) = no_members
members_in (array ds) = no_members
members_in (object ms) = ms

-- those of what is printed of a finding
abbrev pub members_by : (Found → Data) → Found → Members
members_by as_data f = members_in (as_data f)
