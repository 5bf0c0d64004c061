-- What reports go by, and which texts name it.
use Rattle.std.specs.Prelude.{ℕ, List, ◌++◌, Option, Some, None, map, option_map}
use Rattle.hazard_base.specs.Hazards as hazards
use Rattle.hazard_base.specs.lint_base.RuleNames.{rule_named}
use Rattle.hazard_base.specs.lint_base.declared.rule.Rule.{Rule}
use Rattle.hazard_base.specs.lint_base.Rules as rules
use Rattle.lint_report.specs.declared.code.Code.{Code}
use Rattle.lint_report.specs.declared.code.Code.TheVariants as code

-- the printed name
abbrev pub name_of : Code → List ℕ
name_of (code.Rule rule) = rules.name_of rule
name_of (code.Hazard hazard) = hazards.name_of hazard

-- a rule, or else the hazard that a text names
abbrev pub code_by : Option Rule → List ℕ → Option Code
code_by (Some rule) text = Some (code.Rule rule)
code_by None text = option_map (λ hazard. code.Hazard hazard) (hazards.hazard_named text)

-- what a text names
unfoldable pub code_named : List ℕ → Option Code
code_named text = code_by (rule_named text) text
