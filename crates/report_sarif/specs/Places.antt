-- Places of the Static Analysis Results Interchange Format (SARIF), OASIS standard, version 2.1.0: 3.4 artifactLocation, 3.29
-- physicalLocation, 3.30 region. Lines and columns begin at 1, an end column is one past the last, and a column is a code point.
use Rattle.std.specs.Prelude.{ℕ, ◌-◌, Bool, ◌&&◌, ◌||◌, nat_le, nat_lt, get_or, length, codes}
use Rattle.percent_encoding.specs.Percent.{percent_encode}
use Rattle.serde_json.specs.Data.{Data, member, no_members, number, object, string, unsigned}
use Rattle.lint_report.specs.text_pos.Range.{Range}
use Rattle.json_value.specs.source_file.File.{FileValue, location}
use Rattle.json_value.specs.source_file.Line.{Text}
use Rattle.report_sarif.specs.declared.places.TheConstants.{ESCAPED}

-- a name as the path of a URI reference, RFC 3986: every byte that is neither unreserved (2.3) nor a slash as `%` and two digits
abbrev pub uri_of : Text → Text
uri_of name = percent_encode ESCAPED name

-- where a file is
abbrev pub artifact_location : Text → Data
artifact_location name = object (member (codes "uri") (string (uri_of name)) no_members)

-- a part of a text, by bytes and by lines and columns
abbrev pub region : Text → Range → Data
region text range =
    let first = location text range.start in
    let last = location text range.end in
    object
    (member (codes "byteLength") (number (unsigned (range.end - range.start)))
    (member (codes "byteOffset") (number (unsigned range.start))
    (member (codes "endColumn") (number (unsigned last.column))
    (member (codes "endLine") (number (unsigned last.line))
    (member (codes "startColumn") (number (unsigned first.column))
    (member (codes "startLine") (number (unsigned first.line)) no_members))))))

-- a part of a file
abbrev pub physical_location : FileValue → Range → Data
physical_location file range = object
    (member (codes "artifactLocation") (artifact_location file.name)
    (member (codes "region") (region file.text range) no_members))

-- a place of a text is between two characters, or at an end
unfoldable pub is_boundary : Text → ℕ → Bool
is_boundary text at = nat_le at (length text) && (nat_lt (get_or text at 0) 128 || nat_le 192 (get_or text at 0))

-- a range begins and ends between two characters
unfoldable pub is_range_in : Text → Range → Bool
is_range_in text range = is_boundary text range.start && is_boundary text range.end
