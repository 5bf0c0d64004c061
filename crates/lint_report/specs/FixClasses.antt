-- The names of the classes of fixes.
use Rattle.std.specs.Prelude.{ℕ, List, codes}
use Rattle.lint_report.specs.declared.fix_class.FixClass.{FixClass}
use Rattle.lint_report.specs.declared.fix_class.FixClass.TheVariants.{Safe, Unsafe, Template}

abbrev pub name_of : FixClass → List ℕ
name_of Safe = codes "safe"
name_of Unsafe = codes "unsafe"
name_of Template = codes "template"
