-- The names of rules in an ignore comment.
use Rattle.std.specs.Prelude.{ℕ, not, ◌==◌, List, [], ◌∷◌, ◌++◌, Option, Some, None, codes, filter, length, map}
use Rattle.lint_base.specs.declared.rule.Rule.{Rule}
use Rattle.lint_base.specs.declared.rule.Rule.TheVariants as rule
use Rattle.lint_base.specs.declared.violation.Violation.{Violation}
use Rattle.lint_base.specs.RuleChoice.{with_expansion}
use Rattle.lint_base.specs.RuleNames.{rule_named}
use Rattle.lint_base.specs.RuleSets.{rules_in}
use Rattle.lint_base.specs.Violations.{violation}
use Rattle.lint_ignore.specs.declared.ignore.IgnorePiece.{IgnorePiece}
use Rattle.lint_ignore.specs.Part.{Part, range_of, trimmed, comma_parts}

-- the pieces that are not empty, each trimmed: a piece of white space alone stays, as an empty name
abbrev pub names_of : List Part → List Part
names_of pieces = map trimmed (filter (λ p. not (length p.bytes == 0)) pieces)

-- the names in what follows the prefix of an ignore comment
abbrev pub names_in : Part → List Part
names_in rest = names_of (comma_parts rest)

-- ---- what a name says, by the rule that it names

abbrev pub rules_by : Option Rule → List Rule
rules_by None = []
rules_by (Some r) = with_expansion r

abbrev pub unknown_message : List ℕ → List ℕ
unknown_message name = codes "unknown name `" ++ name ++ codes "`"

abbrev pub unknown_by : Option Rule → Part → List Violation
unknown_by None name = violation rule.UnusedIgnore (unknown_message name.bytes) (range_of name) ∷ []
unknown_by (Some r) name = []

abbrev pub known_by : Option Rule → ℕ → Part → List IgnorePiece
known_by None ignore name = []
known_by (Some r) ignore name = record { range = range_of name; rules = rules_in (with_expansion r); ignore = ignore } ∷ []

-- ---- what a name says

-- the rules that it names
abbrev pub rules_of_name : Part → List Rule
rules_of_name name = rules_by (rule_named name.bytes)

-- a report where it names no rule
abbrev pub unknown_name : Part → List Violation
unknown_name name = unknown_by (rule_named name.bytes) name

-- the name itself where it names a rule, in the ignore comment of this number
abbrev pub known_name : ℕ → Part → List IgnorePiece
known_name ignore name = known_by (rule_named name.bytes) ignore name
