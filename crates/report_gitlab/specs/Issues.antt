-- Findings as issues of GitLab's Code Quality report format (GitLab's documentation, "Code Quality", "Code Quality report format").
use Rattle.std.specs.Prelude.{ℕ, List, ◌∷◌, ◌++◌, codes, slice_range}
use Rattle.hex.specs.Hex.{encode_lower}
use Rattle.sha2.specs.Sha256.{sha256}
use Rattle.serde_json.specs.Data.{Data, member, no_members, number, object, string, unsigned}
use Rattle.lint_report.specs.declared.report.Report.{Report}
use Rattle.lint_report.specs.Codes.{name_of}
use Rattle.json_value.specs.source_file.declared.level.Level.{Level}
use Rattle.json_value.specs.source_file.declared.level.Level.TheVariants as level
use Rattle.json_value.specs.source_file.declared.refusal.Refusal.{Refusal}
use Rattle.json_value.specs.source_file.File.{FileValue, line_number}
use Rattle.json_value.specs.source_file.Line.{Text, rest_of}
use Rattle.json_value.specs.source_file.Refusals as refusals

-- of the severities info, minor, major, critical and blocker
abbrev pub severity_of : Level → List ℕ
severity_of level.Warning = codes "minor"
severity_of level.Error = codes "major"

-- what the fingerprint is taken of: the file's name, that of the rule, hazard or fault, and a part of its text, with a byte 0 between two
abbrev pub fingerprinted : Text → List ℕ → Text → List ℕ
fingerprinted file name part = file ++ 0 ∷ name ++ 0 ∷ part

-- SHA-256 of that, in hexadecimal digits
unfoldable pub fingerprint : Text → List ℕ → Text → List ℕ
fingerprint file name part = encode_lower (sha256 (fingerprinted file name part))

-- the text of the statement of a report, from its first token to its last
abbrev pub statement_text : Text → Report → Text
statement_text text r = slice_range text r.statement.start r.statement.end

-- the fingerprint of a report of a file
abbrev pub report_fingerprint : Text → Text → Report → List ℕ
report_fingerprint file text r = fingerprint file (name_of r.code) (statement_text text r)

-- a line of a file; lines begin at 1
abbrev pub location_object : Text → ℕ → Data
location_object path line = object
    (member (codes "lines") (object (member (codes "begin") (number (unsigned line)) no_members))
    (member (codes "path") (string path) no_members))

-- a finding, by its fingerprint and its place
abbrev pub described : Level → List ℕ → List ℕ → List ℕ → Data → Data
described level name message fingerprint location = object
    (member (codes "check_name") (string name)
    (member (codes "description") (string message)
    (member (codes "fingerprint") (string fingerprint)
    (member (codes "location") location
    (member (codes "severity") (string (severity_of level)) no_members)))))

-- a finding on a line
abbrev pub issue_object : FileValue → ℕ → Level → List ℕ → List ℕ → Text → Data
issue_object file line level name message part =
    described level name message (fingerprint file.name name part) (location_object file.name line)

-- a report
abbrev pub report_issue : FileValue → Report → Data
report_issue file r =
    issue_object file (line_number file.text r.text_range.start) level.Warning (name_of r.code) r.message (statement_text file.text r)

-- why a file could not be linted: its fingerprint is taken of what is on the line from the fault on
abbrev pub refusal_issue : FileValue → Refusal → Data
refusal_issue file r =
    issue_object file (line_number file.text (refusals.place_of r)) level.Error (refusals.name_of r) (refusals.message_of r) (rest_of file.text (refusals.place_of r))
