-- Fixes that are not made, since another one changes the same bytes and comes first.
use Rattle.std.specs.Prelude.{◌≡◌, ◌==◌, ◌&&◌, ◌++◌, Bool, false, List, [], ◌∷◌, reverse, slice_get, Option, Some, None, IfSome, is_some, if◌then◌else◌}
use Rattle.std.specs.List.{find}
use Rattle.fix_class.specs.text_pos.Range.{Range}
use Rattle.fix_class.specs.sql_tree.Statement.{Tree}
use Rattle.other_fix.specs.lint_base.declared.edit.Edit.{Edit}
use Rattle.other_fix.specs.lint_base.declared.settings.LinterSettings.{LinterSettings}
use Rattle.other_fix.specs.lint_base.declared.violation.Violation.{Violation}
use Rattle.other_fix.specs.lint_base.Fixes.{FixValue}
use Rattle.law_next_fix.specs.law_fix_steps.Listed.{is_listed}
use Rattle.fix_class.specs.Classes.{class_of}
use Rattle.other_fix.specs.declared.other.OtherFix.{OtherFix}
use Rattle.fix_class.specs.statement_place.Statements.{number_behind}
use Rattle.fix_text.specs.declared.others.Numbered.{Numbered}
use Rattle.fix_text.specs.Allowed.{is_allowed, made_if}

-- ---- the bytes that a fix replaces

-- a range of a byte or more
abbrev pub some_bytes : Range → Option Range
some_bytes range = if range.start == range.end then None else Some range

-- what the first of these edits replaces
abbrev pub first_replaced : List Edit → Option Range
first_replaced [] = None
first_replaced (edit ∷ edits) = some_bytes edit.text_range

-- what the first edit of a fix replaces, if there is a fix and it replaces any byte
abbrev pub replaced_by : Option FixValue → Option Range
replaced_by None = None
replaced_by (Some fix) = first_replaced fix.edits

abbrev pub is_same_range : Option Range → Option Range → Bool
is_same_range None b = false
is_same_range (Some a) None = false
is_same_range (Some a) (Some b) = a.start == b.start && a.end == b.end

-- the fixes of these reports replace the same bytes, one or more
abbrev pub is_same_part : Violation → Violation → Bool
is_same_part u v = is_same_range (replaced_by u.fix) (replaced_by v.fix)

-- ---- two reports

-- the fix of a report is allowed, of a listed rule, and fits
abbrev pub is_made : Bool → LinterSettings → Tree → Violation → Bool
is_made wide settings tree u = is_some (made_if (is_allowed wide settings tree u) tree.text u)

-- the fix of a report is offered: it has a class
abbrev pub is_offered : LinterSettings → Tree → Violation → Bool
is_offered settings tree v = is_some (class_of settings tree v)

-- the second report has a fix that is offered, and the fix of the first one, which is made, replaces the same bytes
abbrev pub is_beside : Bool → LinterSettings → Tree → Violation → Violation → Bool
is_beside wide settings tree u v = (is_same_part u v && is_offered settings tree v) && is_made wide settings tree u

abbrev pub other_for : Violation → Violation → OtherFix
other_for u v = record { at = v.text_range.start; rule = v.code; first = u.code }

-- the fix of a report, if it is such a one beside this earlier report
abbrev pub other_by : Bool → LinterSettings → Tree → Option Violation → Violation → Option OtherFix
other_by wide settings tree None v = None
other_by wide settings tree (Some u) v = if is_beside wide settings tree u v then Some (other_for u v) else None

-- ---- all reports

-- a report of a listed rule whose fix replaces bytes
abbrev pub replaces : Violation → Bool
replaces v = is_listed v.code && is_some (replaced_by v.fix)

abbrev pub with_other : Option OtherFix → List OtherFix → List OtherFix
with_other None others = others
with_other (Some other) others = other ∷ others

-- those of reports that are given from the last one back: each is compared with the nearest report before it that is such a one
abbrev pub others_back : Bool → LinterSettings → Tree → List Violation → List OtherFix
others_back wide settings tree [] = []
others_back wide settings tree (v ∷ before) =
    others_back wide settings tree before ++ with_other (other_by wide settings tree (find replaces before) v) []

-- those of reports, in their order
abbrev pub others_of : Bool → LinterSettings → Tree → List Violation → List OtherFix
others_of wide settings tree vs = others_back wide settings tree (reverse vs)

-- ---- how they are found

-- the statement of this number is that of the report of this number, where there is one
abbrev pub IsNumbered : Tree → List Violation → Numbered → Type 0
IsNumbered tree vs n = IfSome (slice_get vs n.report) (λ v. n.statement ≡ number_behind tree v.text_range.start)
