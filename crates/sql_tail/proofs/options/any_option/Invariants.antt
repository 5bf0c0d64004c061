use Rattle.std.proofs.Common.{◌≡◌, length}
use Rattle.std.specs.List.{list_any}
use Rattle.sql_tree.specs.Split.{split, comma}
use Rattle.sql_tail.specs.Options.{test_of}
use Rattle.sql_tail.proofs.options.any_option.Given as goal

abbrev pub invariant-loop-part : goal.invariant-loop-part
invariant-loop-part l = list_any (test_of l.test) l.parts ≡ list_any (test_of l.test) (split comma l.inside)

abbrev pub decreases-loop-part : goal.decreases-loop-part
decreases-loop-part l = length l.parts
