-- Remedies as code actions of the protocol.
use Rattle.std.specs.Prelude.{ℕ, Bool, ◌&&◌, ◌||◌, nat_eq, nat_le, nat_lt, List, [], ◌++◌, Option, codes, flat_map, if◌then◌else◌, option_map, option_to_list, unwrap_or}
use Rattle.diag_json.specs.Json.{list_json, range_json}
use Rattle.lsp_session.specs.declared.report.Change.{Change}
use Rattle.lsp_session.specs.declared.report.Report.{Report}
use Rattle.lsp_session.specs.Remedy.{RemedyValue}
use Rattle.lsp_write.specs.Diagnostic.{diagnostic_json}
use Rattle.serde_json.specs.Data.{Data, array, boolean, item, member, no_items, no_members, object, string}
use Rattle.serde_json.specs.View.{items_of}
use Rattle.diag_json.specs.text_utf16.declared.position.Pos.{Pos}

abbrev pub is_at_or_before : Pos → Pos → Bool
is_at_or_before a b = nat_lt a.line b.line || (nat_eq a.line b.line && nat_le a.col b.col)

-- a report and a part have a place in common; their ends belong to them
abbrev pub meets : Report → Pos → Pos → Bool
meets r start end = is_at_or_before r.start end && is_at_or_before start r.end

unfoldable pub change_json : Change → Data
change_json c = object (member (codes "newText") (string (unwrap_or c.text [])) (member (codes "range") (range_json c.start c.end) no_members))

-- the changes of one document
unfoldable pub edit_json : List ℕ → List Change → Data
edit_json uri changes = object (member (codes "changes") (object (member uri (list_json change_json changes) no_members)) no_members)

unfoldable pub action_json : List ℕ → Report → RemedyValue → Data
action_json uri r remedy =
    object (member (codes "diagnostics") (array (item (diagnostic_json r) no_items))
    (member (codes "edit") (edit_json uri remedy.changes)
    (member (codes "isPreferred") (boolean remedy.is_preferred)
    (member (codes "kind") (string (codes "quickfix"))
    (member (codes "title") (string remedy.title) no_members)))))

-- the code action of a remedy, if there is one
abbrev pub action_if : List ℕ → Report → Option RemedyValue → List Data
action_if uri r remedy = option_to_list (option_map (action_json uri r) remedy)

-- the code actions of a report, where it meets a part
abbrev pub actions_of : List ℕ → Pos → Pos → Report → List Data
actions_of uri start end r = if meets r start end then action_if uri r r.fix ++ action_if uri r r.ignore else []

-- the code actions of reports, in order
abbrev pub actions_json : List ℕ → List Report → Pos → Pos → Data
actions_json uri reports start end = array (items_of (flat_map (actions_of uri start end) reports))
