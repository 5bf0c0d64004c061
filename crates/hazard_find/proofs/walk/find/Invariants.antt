use Rattle.std.proofs.Common.{◌≡◌}
use Rattle.lint_transaction.specs.Earlier.{concat_below}
use Rattle.hazard_find.specs.Earlier.{is_assumed}
use Rattle.hazard_find.specs.Findings.{findings_at}
use Rattle.hazard_find.specs.Walk.{IsKept}
use Rattle.hazard_find.proofs.walk.find.Given as goal

-- what is found of the statements so far was added, and the walk is after them
abbrev pub invariant-loop-i : goal.invariant-loop-i
invariant-loop-i l = record {
  kept : IsKept l.file (is_assumed l.set l.file) l.i l.earlier;
  found : l.list.items ≡ concat_below (findings_at l.enabled l.set l.file) l.i;
}
