use Rattle.std.proofs.Common.{◌≡◌, ◌++◌, take}
use Rattle.std.specs.List.{flat_map}
use Rattle.pass_constraint.specs.ConstraintMissingNotValid.{addition}
use Rattle.pass_constraint.proofs.constraint_missing_not_valid.report_additions.Given as goal

-- the actions so far were reported
abbrev pub invariant-loop-a : goal.invariant-loop-a
invariant-loop-a l = l.out ≡ l.fn.out ++ flat_map (addition l.p) (take l.a-index l.actions)
