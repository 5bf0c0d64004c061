-- The names that a rule is found by.
use Rattle.std.specs.Prelude.{◌≡◌, ℕ, Bool, not, ◌&&◌, List, [], ◌∷◌, Option, Some, Result, Ok, Contains, ◌↔◌, codes, find, if◌then◌else◌, bytes_eq}
use Rattle.std.specs.Result.{result_ok}
use denote.Enum.Bare.{sameb}
use Rattle.lint_base.specs.contracts.rule.Rule.{the_type}
use Rattle.lint_base.specs.declared.rule.Rule.{Rule}
use Rattle.lint_base.specs.declared.rule.Rule.TheVariants as rule
use Rattle.lint_base.specs.declared.rule_name.UnknownName.{UnknownName}
use Rattle.lint_base.specs.Rules.{all_rules, name_of}

-- `==` on rules
unfoldable pub same_rule : Rule → Rule → Bool
same_rule = sameb the_type

-- the second spelling of the rule on timestamps
abbrev pub second_spelling : List ℕ
second_spelling = codes "prefer-timestamptz"

-- the texts by which a rule is named in comments and options: its printed name, and for one rule a second spelling;
-- the rule on ignore comments is named by none
unfoldable pub accepted_names : Rule → List (List ℕ)
accepted_names rule.UnusedIgnore = []
accepted_names rule.PreferTimestampTz = name_of rule.PreferTimestampTz ∷ second_spelling ∷ []
accepted_names r = name_of r ∷ []

-- whether a text is a rule's printed name, and names it
abbrev pub is_printed_name : List ℕ → Rule → Bool
is_printed_name text r = not (same_rule r rule.UnusedIgnore) && bytes_eq (name_of r) text

-- the rule that a text names
unfoldable pub rule_named : List ℕ → Option Rule
rule_named text = (if bytes_eq text second_spelling then Some rule.PreferTimestampTz else find (is_printed_name text) all_rules)

-- what a look-up of a text answers: a rule exactly where the text is one of its names, and what `rule_named` says
pub record NamesRule (text : List ℕ) (r : Result Rule UnknownName) : Type 0 where
  pub value : result_ok r ≡ rule_named text
  pub named : (q : Rule) → (r ≡ Ok q) ↔ Contains (accepted_names q) text
