use Rattle.std.proofs.Common.{◌≡◌, take}
use Rattle.lint_lock.specs.Lock.{strength, greatest_strength}
use Rattle.lint_lock.proofs.lock.strongest.Given as goal

-- the greatest strength of the actions so far
abbrev pub invariant-loop-action : goal.invariant-loop-action
invariant-loop-action l = strength l.lock ≡ greatest_strength (take l.action-index l.actions)
