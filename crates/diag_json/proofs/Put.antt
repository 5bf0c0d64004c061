-- The members of a diagnostic in the order in which they are put.
use Rattle.std.proofs.Common.{◌≡◌, Option, None, Some, codes, option_map, refl}
use Rattle.serde_json.specs.Data.{Data, member, no_members, object, string}
use Rattle.diag_json.specs.declared.diagnostic.Diagnostic.{Diagnostic}
use Rattle.diag_json.specs.Json.{diagnostic_json, fix_json, member_if, range_json, whole_json}
use Rattle.diag_json.specs.Putting.{common_members, put_if}
use Rattle.lint_base.specs.Rules.{name_of}

by : (code message range severity source : Data) (note help fix : Option Data)
    → put_if (codes "fix") fix (put_if (codes "help") help (put_if (codes "note") note (member (codes "code") code (member (codes "message") message (member (codes "range") range (member (codes "severity") severity (member (codes "source") source no_members)))))))
    ≡ member (codes "code") code (member_if (codes "fix") fix (member_if (codes "help") help (member (codes "message") message (member_if (codes "note") note (member (codes "range") range (member (codes "severity") severity (member (codes "source") source no_members)))))))
by code message range severity source None None None = refl
by code message range severity source None None (Some fix) = refl
by code message range severity source None (Some help) None = refl
by code message range severity source None (Some help) (Some fix) = refl
by code message range severity source (Some note) None None = refl
by code message range severity source (Some note) None (Some fix) = refl
by code message range severity source (Some note) (Some help) None = refl
by code message range severity source (Some note) (Some help) (Some fix) = refl

-- what is put is the JSON
pub put_all : (d : Diagnostic) → object (put_if (codes "fix") (option_map fix_json d.fix) (put_if (codes "help") (option_map string d.help) (put_if (codes "note") (option_map string d.note) (common_members d)))) ≡ diagnostic_json d
unfolding common_members diagnostic_json
put_all d = λ i. object (by (string (name_of d.rule)) (string d.message) (range_json d.start d.end) (whole_json 2) (string (codes "squawk")) (option_map string d.note) (option_map string d.help) (option_map fix_json d.fix) i)
