-- Which fixes the classes allow.
use Rattle.std.specs.Prelude.{Bool, true, false, List, filter, Option, Some, None, if◌then◌else◌}
use Rattle.fix_class.specs.sql_token.Token.{Text}
use Rattle.fix_class.specs.sql_tree.Statement.{Tree}
use Rattle.other_fix.specs.lint_base.declared.settings.LinterSettings.{LinterSettings}
use Rattle.other_fix.specs.lint_base.declared.violation.Violation.{Violation}
use Rattle.fix_class.specs.lint_report.declared.fix_class.FixClass.{FixClass}
use Rattle.fix_class.specs.lint_report.declared.fix_class.FixClass.TheVariants.{Safe, Unsafe, Template}
use Rattle.fix_class.specs.Classes.{class_of}
use Rattle.law_next_fix.specs.fix_choice.Fits.{made_for}

-- safe fixes, and unsafe ones where they are asked for; never one that is not offered, or that has a part to be filled in
abbrev pub is_allowed_class : Bool → Option FixClass → Bool
is_allowed_class wide None = false
is_allowed_class wide (Some Safe) = true
is_allowed_class wide (Some Unsafe) = wide
is_allowed_class wide (Some Template) = false

abbrev pub is_allowed : Bool → LinterSettings → Tree → Violation → Bool
is_allowed wide settings tree v = is_allowed_class wide (class_of settings tree v)

-- the reports whose fixes are allowed, in their order
abbrev pub allowed : Bool → LinterSettings → Tree → List Violation → List Violation
allowed wide settings tree vs = filter (is_allowed wide settings tree) vs

-- the text with the fix of a report made, if it is allowed, of a listed rule, and fits
abbrev pub made_if : Bool → Text → Violation → Option Text
made_if is text v = if is then made_for text v else None
