-- How many reports each rule and each hazard has.
use Rattle.std.specs.Prelude.{ℕ, ◌+◌, ◌==◌, Bool, false, List, [], ◌++◌, codes, count_by, decimal, flat_map, fold, if◌then◌else◌}
use Rattle.checked_file.specs.declared.answer.Answer.{Answer}
use Rattle.checked_file.specs.declared.answer.Answer.TheVariants.{Reports, Partial, Refused}
use Rattle.checked_file.specs.declared.checked.Checked.{Checked}
use Rattle.hazard_base.specs.declared.hazard.Hazard.{Hazard}
use Rattle.hazard_base.specs.Hazards.{all_hazards, same_hazard}
use Rattle.lint_base.specs.declared.rule.Rule.{Rule}
use Rattle.lint_base.specs.RuleNames.{same_rule}
use Rattle.lint_base.specs.Rules.{all_rules}
use Rattle.checked_file.specs.lint_report.declared.code.Code.{Code}
use Rattle.checked_file.specs.lint_report.declared.code.Code.TheVariants as code
use Rattle.checked_file.specs.lint_report.declared.report.Report.{Report}
use Rattle.checked_file.specs.lint_report.Codes.{name_of}
use Rattle.check_print.specs.Counted.{capped}

-- both are one rule, or one hazard
abbrev pub same_code : Code → Code → Bool
same_code (code.Rule rule) (code.Rule other) = same_rule rule other
same_code (code.Rule rule) (code.Hazard hazard) = false
same_code (code.Hazard hazard) (code.Rule rule) = false
same_code (code.Hazard hazard) (code.Hazard other) = same_hazard hazard other

-- the reports of a code for one file
abbrev pub count_among : Code → List Report → ℕ
count_among c reports = count_by (λ v. same_code v.code c) reports

abbrev pub count_in : Code → Answer → ℕ
count_in c (Reports reports) = count_among c reports.items
count_in c (Partial p) = count_among c p.reports.items
count_in c (Refused r) = 0

-- the reports of a code for all files
abbrev pub count_of : Code → List Checked → ℕ
count_of c files = fold (λ n file. capped (n + count_in c file.answer)) 0 files

-- `ban-drop-table: 3`, but nothing for a code without reports
unfoldable pub code_line : Code → ℕ → List ℕ
code_line c count = if count == 0 then [] else name_of c ++ codes ": " ++ decimal count ++ codes "\n"

-- the line of a rule, and that of a hazard
abbrev pub rule_line : List Checked → Rule → List ℕ
rule_line files rule = code_line (code.Rule rule) (count_of (code.Rule rule) files)

abbrev pub hazard_line : List Checked → Hazard → List ℕ
hazard_line files hazard = code_line (code.Hazard hazard) (count_of (code.Hazard hazard) files)

-- a line for each rule that has reports, and then for each hazard that has some, both in the order in which they are declared
unfoldable pub code_lines : List Checked → List ℕ
code_lines files = flat_map (rule_line files) all_rules ++ flat_map (hazard_line files) all_hazards
