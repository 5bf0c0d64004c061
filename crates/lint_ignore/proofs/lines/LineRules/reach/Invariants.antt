use Rattle.std.proofs.Common.{◌≡◌, ℕ, ◌+◌, ◌-◌, length}
use Rattle.lint_ignore.specs.Lines.{at_line}
use Rattle.lint_ignore.proofs.lines.LineRules.reach.Given as goal

-- no line has changed
abbrev pub invariant-loop-self : goal.invariant-loop-self
invariant-loop-self l = (other : ℕ) → at_line l.self-inside.sets.items other ≡ at_line l.fn.self other

abbrev pub decreases-loop-self : goal.decreases-loop-self
decreases-loop-self l = l.line + 1 - length l.self-inside.sets.items
