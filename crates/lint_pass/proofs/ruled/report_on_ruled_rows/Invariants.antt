use Rattle.std.proofs.Common.{◌≡◌, ◌++◌, take}
use Rattle.std.specs.List.{flat_map}
use Rattle.lint_pass.specs.Ruled.{on_ruled, lent_ruled}
use Rattle.lint_pass.proofs.ruled.report_on_ruled_rows.Given as goal

-- what came so far was reported
abbrev pub invariant-loop-row : goal.invariant-loop-row
invariant-loop-row l = l.out ≡ l.fn.out ++ flat_map (λ r. on_ruled l.rules l.p l.s (lent_ruled r)) (take l.row-index l.rows)
