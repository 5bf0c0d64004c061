use Rattle.std.proofs.Common.{◌≡◌, false, take}
use Rattle.std.specs.List.{list_any}
use Rattle.lint_lock.specs.Slow.{is_reference}
use Rattle.lint_lock.proofs.analyze.has_references.Given as goal

-- none of those so far
abbrev pub invariant-loop-constraint : goal.invariant-loop-constraint
invariant-loop-constraint l = list_any is_reference (take l.constraint-index l.constraint-items) ≡ false
