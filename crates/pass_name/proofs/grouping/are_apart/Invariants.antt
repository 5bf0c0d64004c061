use Rattle.std.proofs.Common.{◌≡◌, length}
use Rattle.pass_name.specs.Groups.{are_apart}
use Rattle.pass_name.specs.Members.{same_name}
use Rattle.pass_name.proofs.grouping.are_apart.Given as goal

-- no two are equal exactly where no two of those left are
abbrev pub invariant-loop-first : goal.invariant-loop-first
invariant-loop-first l = are_apart (same_name l.p) l.rest ≡ are_apart (same_name l.p) l.members

abbrev pub decreases-loop-first : goal.decreases-loop-first
decreases-loop-first l = length l.rest
