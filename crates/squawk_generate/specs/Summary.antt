-- The summary of reports: how many each rule has, and how many there are.
use Rattle.std.specs.Prelude.{ℕ, List, [], ◌++◌, ◌==◌, if◌then◌else◌, length, codes, decimal, count_by, flat_map}
use Rattle.lint_base.specs.declared.rule.Rule.{Rule}
use Rattle.lint_base.specs.declared.violation.Violation.{Violation}
use Rattle.lint_base.specs.RuleNames.{same_rule}
use Rattle.lint_base.specs.Rules.{all_rules, name_of}

-- how many of the reports are of a rule
abbrev pub count_of : List Violation → Rule → ℕ
count_of vs rule = count_by (λ v. same_rule v.code rule) vs

-- a name and a count on a line of their own
abbrev pub counted : List ℕ → ℕ → List ℕ
counted name count = name ++ codes ": " ++ decimal count ++ codes "\n"

-- no line for a rule without reports
abbrev pub rule_line : Rule → ℕ → List ℕ
rule_line rule count = if count == 0 then [] else counted (name_of rule) count

-- a line for each rule that has reports, in declaration order, and then one with the count of all reports
unfoldable pub summary : List Violation → List ℕ
summary vs = flat_map (λ rule. rule_line rule (count_of vs rule)) all_rules ++ counted (codes "violations") (length vs)
