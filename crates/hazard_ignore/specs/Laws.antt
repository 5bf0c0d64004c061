-- Which reports of the linter are of names of hazards.
use Rattle.std.specs.Prelude.{◌≡◌, ℕ, List, None}
use Rattle.lint_ignore.specs.sql_token.Token.{Text}
use Rattle.hazard_base.specs.text_pos.Range.{Range}
use Rattle.lint_base.specs.declared.rule.Rule.TheVariants as rule
use Rattle.lint_base.specs.Violations.{violation}
use Rattle.lint_ignore.specs.declared.ignore.IgnorePiece.{IgnorePiece}
use Rattle.lint_ignore.specs.Names.{unknown_message}
use Rattle.lint_ignore.specs.Unused.{unused_name}
use Rattle.hazard_base.specs.Hazards.{hazard_named}
use Rattle.hazard_ignore.specs.HazardNames.{hazard_of}

-- A report that a name is unknown is of a hazard exactly where the name is a hazard's, and then of that one.
abbrev pub UnknownNamesAreTold : Type 0
UnknownNamesAreTold = (name : List ℕ) (range : Range) → hazard_of (violation rule.UnusedIgnore (unknown_message name) range) ≡ hazard_named name

-- No report that the name of a rule covers nothing is of a hazard.
abbrev pub UnusedNamesStay : Type 0
UnusedNamesStay = (text : Text) (piece : IgnorePiece) → hazard_of (unused_name text piece) ≡ None
