-- Reports whose ranges lie in the text of a tree.
use Rattle.std.specs.Prelude.{◌≤◌, List, length, All}
use Rattle.lint_base.specs.text_pos.Range.{Range}
use Rattle.lint_base.specs.declared.violation.Violation.{Violation}
use Rattle.lint_ignore.specs.sql_tree.Statement.{Tree}

-- the range runs forward and ends in the text
pub record RangeIn (tree : Tree) (range : Range) : Type 0 where
  pub ordered : range.start ≤ range.end
  pub within : range.end ≤ length tree.text

abbrev pub LiesIn : Tree → Violation → Type 0
LiesIn tree v = RangeIn tree v.text_range

abbrev pub AllLieIn : Tree → List Violation → Type 0
AllLieIn tree vs = All (LiesIn tree) vs
