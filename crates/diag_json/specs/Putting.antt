-- Members that are put into an object.
use Rattle.std.specs.Prelude.{ℕ, List, Option, Some, None, codes}
use Rattle.lint_base.specs.Rules.{name_of}
use Rattle.serde_json.specs.Data.{Data, Members, member, no_members, put, string}
use Rattle.diag_json.specs.declared.diagnostic.Diagnostic.{Diagnostic}
use Rattle.diag_json.specs.Json.{range_json, whole_json}

-- the members, with a value at a key where there is one
abbrev pub put_if : List ℕ → Option Data → Members → Members
put_if key None members = members
put_if key (Some d) members = put key d members

-- the members that the JSON of each diagnostic has
unfoldable pub common_members : Diagnostic → Members
common_members d =
    member (codes "code") (string (name_of d.rule))
    (member (codes "message") (string d.message)
    (member (codes "range") (range_json d.start d.end)
    (member (codes "severity") (whole_json 2)
    (member (codes "source") (string (codes "squawk")) no_members))))
