-- Reports as diagnostics of the protocol.
use Rattle.std.specs.Prelude.{ℕ, ℤ, List, ◌++◌, Option, Some, None, codes, option_map}
use Rattle.diag_json.specs.Json.{list_json, member_if, range_json, whole_json}
use Rattle.diag_json.specs.lint_base.declared.rule.Rule.{Rule}
use Rattle.diag_json.specs.lint_base.Rules as rules
use Rattle.lsp_session.specs.lint_report.Codes.{name_of}
use Rattle.lsp_session.specs.lint_report.declared.code.Code.{Code}
use Rattle.lsp_session.specs.lint_report.declared.code.Code.TheVariants as by
use Rattle.lsp_session.specs.declared.report.Report.{Report}
use Rattle.serde_json.specs.Data.{Data, Members, member, no_members, number, object, string}
use Rattle.serde_json.specs.Find.{of_integer}

-- the address of a rule's page
abbrev pub address_of : Rule → List ℕ
address_of rule = codes "https://squawkhq.com/docs/" ++ rules.name_of rule

-- the name of what a report is about: a rule, a hazard, or that the text can't be read
abbrev pub code_of : Option Code → List ℕ
code_of (Some code) = name_of code
code_of None = codes "syntax"

-- the members from the message on, of a report this severe
abbrev pub from_message : ℕ → Report → Members
from_message severity r =
    member (codes "message") (string r.message)
    (member (codes "range") (range_json r.start r.end)
    (member (codes "severity") (whole_json severity)
    (member (codes "source") (string (codes "lavkheto")) no_members)))

-- a warning that links to the page of a rule
abbrev pub linked : Rule → Report → Data
linked rule r =
    object (member (codes "code") (string (code_of r.code))
    (member (codes "codeDescription") (object (member (codes "href") (string (address_of rule)) no_members)) (from_message 2 r)))

-- a report this severe that links to nothing
abbrev pub unlinked : ℕ → Report → Data
unlinked severity r = object (member (codes "code") (string (code_of r.code)) (from_message severity r))

-- a warning of a rule or of a hazard, whose severity is 2, and an error, whose severity is 1; a hazard's page has no address
abbrev pub diagnostic_by : Option Code → Report → Data
diagnostic_by (Some (by.Rule rule)) r = linked rule r
diagnostic_by (Some (by.Hazard hazard)) r = unlinked 2 r
diagnostic_by None r = unlinked 1 r

-- a report as a diagnostic
unfoldable pub diagnostic_json : Report → Data
diagnostic_json r = diagnostic_by r.code r

abbrev pub integer_json : ℤ → Data
integer_json n = number (of_integer n)

-- the members of its parameters but for the version
abbrev pub unversioned : List ℕ → List Report → Members
unversioned uri reports = member (codes "diagnostics") (list_json diagnostic_json reports) (member (codes "uri") (string uri) no_members)

-- the parameters of a notification that a document has these reports
unfoldable pub published_params : List ℕ → Option ℤ → List Report → Data
published_params uri version reports =
    object (member (codes "diagnostics") (list_json diagnostic_json reports)
    (member (codes "uri") (string uri)
    (member_if (codes "version") (option_map integer_json version) no_members)))

unfoldable pub published_json : List ℕ → Option ℤ → List Report → Data
published_json uri version reports =
    object (member (codes "jsonrpc") (string (codes "2.0"))
    (member (codes "method") (string (codes "textDocument/publishDiagnostics"))
    (member (codes "params") (published_params uri version reports) no_members)))
