use Rattle.std.proofs.Common.{◌≡◌, ◌++◌, take}
use Rattle.std.specs.List.{flat_map}
use Rattle.lint_pass.specs.Those.{that}
use Rattle.pass_constraint.specs.AddedConstraints.{is_of_column, lent, report}
use Rattle.pass_constraint.proofs.constraint_rows.report_column.Given as goal

-- what came so far was reported
abbrev pub invariant-loop-c : goal.invariant-loop-c
invariant-loop-c l = l.out ≡ l.fn.out ++ flat_map (that (is_of_column (lent l.row) l.is_new) (report (lent l.row) l.p)) (take l.c-index l.constraints)
