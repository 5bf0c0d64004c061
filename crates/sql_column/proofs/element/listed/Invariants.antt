use Rattle.std.proofs.Common.{◌≡◌, ◌++◌, length, map}
use Rattle.sql_tree.specs.Column.{element, listed}
use Rattle.sql_column.proofs.element.listed.Given as goal

abbrev pub invariant-loop-part : goal.invariant-loop-part
invariant-loop-part l = l.elements.items ++ map element l.parts ≡ listed l.inside

abbrev pub decreases-loop-part : goal.decreases-loop-part
decreases-loop-part l = length l.parts
