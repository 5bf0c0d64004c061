-- A log of SARIF 2.1.0 with one run: 3.13 sarifLog, 3.14 run, 3.18 tool, 3.19 toolComponent, 3.49 reportingDescriptor.
use Rattle.std.specs.Prelude.{ℕ, List, ◌++◌, codes, map}
use Rattle.serde_json.specs.Data.{Data, array, member, no_members, object, string}
use Rattle.serde_json.specs.View.{items_of}
use Rattle.serde_json.specs.Written.{compact_text}
use Rattle.hazard_base.specs.declared.hazard.Hazard.{Hazard}
use Rattle.hazard_base.specs.Hazards.{all_hazards}
use Rattle.lint_base.specs.declared.rule.Rule.{Rule}
use Rattle.lint_base.specs.Rules.{all_rules}
use Rattle.lint_report.specs.declared.code.Code.{Code}
use Rattle.lint_report.specs.declared.code.Code.TheVariants as code
use Rattle.lint_report.specs.Codes.{name_of}

-- what reports go by
abbrev pub code_object : Code → Data
code_object c = object (member (codes "id") (string (name_of c)) no_members)

-- a rule
abbrev pub rule_object : Rule → Data
rule_object rule = code_object (code.Rule rule)

-- a hazard
abbrev pub hazard_object : Hazard → Data
hazard_object hazard = code_object (code.Hazard hazard)

-- all rules, and then all hazards
abbrev pub all_codes : List Data
all_codes = map rule_object all_rules ++ map hazard_object all_hazards

-- the linter's name, all its rules and all hazards
abbrev pub driver : Data
driver = object
    (member (codes "name") (string (codes "lavkheto"))
    (member (codes "rules") (array (items_of all_codes)) no_members))

-- the linter
abbrev pub tool : Data
tool = object (member (codes "driver") driver no_members)

-- what comes before the results
abbrev pub opening : List ℕ
opening = codes "{\"$schema\":\"https://json.schemastore.org/sarif-2.1.0.json\",\"runs\":[{\"columnKind\":\"unicodeCodePoints\",\"results\":["

-- what comes after them
abbrev pub closing : List ℕ
closing = codes "],\"tool\":" ++ compact_text tool ++ codes "}],\"version\":\"2.1.0\"}"
