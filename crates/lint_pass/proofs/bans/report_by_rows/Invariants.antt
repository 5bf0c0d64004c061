use Rattle.std.proofs.Common.{◌≡◌, ◌++◌, take}
use Rattle.std.specs.List.{flat_map}
use Rattle.lint_pass.specs.Bans.{by_row, lent}
use Rattle.lint_pass.proofs.bans.report_by_rows.Given as goal

-- what came so far was reported
abbrev pub invariant-loop-row : goal.invariant-loop-row
invariant-loop-row l = l.out ≡ l.fn.out ++ flat_map (λ r. by_row l.code l.at l.range (lent r)) (take l.row-index l.rows)
