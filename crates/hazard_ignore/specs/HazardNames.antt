-- Names of hazards in ignore comments. The linter reports each as the name of no rule.
use Rattle.std.specs.Prelude.{ℕ, Bool, is_none, List, filter, find, bytes_eq, Option, None, if◌then◌else◌}
use Rattle.lint_base.specs.declared.rule.Rule.TheVariants as rule
use Rattle.lint_base.specs.declared.violation.Violation.{Violation}
use Rattle.lint_base.specs.RuleNames.{same_rule}
use Rattle.lint_ignore.specs.Names.{unknown_message}
use Rattle.hazard_base.specs.declared.hazard.Hazard.{Hazard}
use Rattle.hazard_base.specs.Hazards.{all_hazards, name_of}

-- the message is that this hazard's name is unknown
unfoldable pub is_unknown : List ℕ → Hazard → Bool
is_unknown message h = bytes_eq message (unknown_message (name_of h))

-- the hazard whose name a report calls unknown
unfoldable pub hazard_of : Violation → Option Hazard
hazard_of v = if same_rule v.code rule.UnusedIgnore then find (is_unknown v.message) all_hazards else None

-- the reports but for those of names of hazards
abbrev pub without_hazard_names : List Violation → List Violation
without_hazard_names reports = filter (λ v. is_none (hazard_of v)) reports
