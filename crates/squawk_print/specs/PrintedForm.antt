-- The printed form tells reports apart.
use Rattle.std.specs.Prelude.{◌≡◌, ℕ, ◌^◌, ◌<◌, List, [], ◌∷◌, ◌++◌, Option, Some, None}
use Rattle.lint_base.specs.text_pos.Range.{Range}
use Rattle.lint_base.specs.declared.edit.Edit.{Edit}
use Rattle.lint_base.specs.declared.violation.Violation.{Violation}
use Rattle.lint_base.specs.Fixes.{FixValue}
use Rattle.squawk_print.specs.Printed.{printed}

-- the numbers are those of the types
abbrev pub RangeFits : Range → Type 0
RangeFits r = (r.start < 2 ^ 32) × (r.end < 2 ^ 32)

abbrev pub EditsFit : List Edit → Type 0
EditsFit [] = Unit {0}
EditsFit (e ∷ es) = RangeFits e.text_range × EditsFit es

abbrev pub FixFits : Option FixValue → Type 0
FixFits None = Unit {0}
FixFits (Some fix) = EditsFit fix.edits

abbrev pub Fits : Violation → Type 0
Fits v = RangeFits v.text_range × FixFits v.fix

abbrev pub AllFit : List Violation → Type 0
AllFit [] = Unit {0}
AllFit (v ∷ vs) = Fits v × AllFit vs

-- what begins with a printed list begins with no other one, and goes on in one way
abbrev pub PrintedTellsApart : Type 0
PrintedTellsApart = (v w : List Violation) (r s : List ℕ) → AllFit v → AllFit w → printed v ++ r ≡ printed w ++ s → (v ≡ w) × (r ≡ s)
