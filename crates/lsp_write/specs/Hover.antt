-- What is to be known of reports, as hovers of the protocol.
use Rattle.std.specs.Prelude.{ℕ, List, [], ◌∷◌, ◌++◌, Option, Some, None, codes, flat_map, if◌then◌else◌}
use Rattle.lsp_session.specs.lint_report.declared.code.Code.{Code}
use Rattle.lsp_session.specs.lint_report.declared.code.Code.TheVariants as by
use Rattle.lsp_session.specs.declared.report.Report.{Report}
use Rattle.lsp_write.specs.Action.{meets}
use Rattle.lsp_write.specs.Diagnostic.{address_of, code_of}
use Rattle.lsp_write.specs.Fence.{block}
use Rattle.rule_pages.specs.Pages as pages
use Rattle.serde_json.specs.Data.{Data, member, no_members, null, object, string}
use Rattle.diag_json.specs.text_utf16.declared.position.Pos.{Pos}

-- a line that begins with a head
abbrev pub line : List ℕ → List ℕ → List ℕ
line head part = head ++ part ++ codes "\n"

-- the same where there is a part
abbrev pub line_if : List ℕ → Option (List ℕ) → List ℕ
line_if head None = []
line_if head (Some part) = line head part

-- the line with the address of a rule's page
abbrev pub see_line : Option Code → List ℕ
see_line (Some (by.Rule rule)) = line (codes "see: ") (address_of rule)
see_line (Some (by.Hazard hazard)) = []
see_line None = []

-- what a report says
abbrev pub message_lines : Report → List ℕ
message_lines r = line (codes "") (code_of r.code) ++ line (codes "") r.message ++ line_if (codes "note: ") r.note ++ line_if (codes "help: ") r.help ++ see_line r.code

-- a line feed, and what `lavkheto explain` prints of a rule or a hazard
abbrev pub page_lines : Option Code → List ℕ
page_lines None = []
page_lines (Some code) = codes "\n" ++ pages.code_page_of code

-- what is to be known of a report: what it says, and the page of its rule or its hazard
abbrev pub explanation : Report → List ℕ
explanation r = message_lines r ++ page_lines r.code

-- what is to be known of the reports at a place, each in a block
abbrev pub explanations : List Report → Pos → List ℕ
explanations reports at = flat_map (λ r. if meets r at at then block (explanation r) else []) reports

-- a hover, or null where nothing is to be known
abbrev pub hover_of : List ℕ → Data
hover_of [] = null
hover_of (byte ∷ bytes) =
    object (member (codes "contents") (object (member (codes "kind") (string (codes "markdown")) (member (codes "value") (string (byte ∷ bytes)) no_members))) no_members)

unfoldable pub hover_json : List Report → Pos → Data
hover_json reports at = hover_of (explanations reports at)
