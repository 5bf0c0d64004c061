use Rattle.std.proofs.Common.{◌≡◌, ◌++◌, take}
use Rattle.std.specs.List.{flat_map}
use Rattle.pass_object.specs.Changes.{by_row, lent}
use Rattle.pass_object.proofs.changes.Changes.report_node.Given as goal

-- what came so far was reported
abbrev pub invariant-loop-row : goal.invariant-loop-row
invariant-loop-row l = l.out ≡ l.fn.out ++ flat_map (λ r. by_row l.self.rules l.at l.range (lent r)) (take l.row-index l.self.rows.now)
