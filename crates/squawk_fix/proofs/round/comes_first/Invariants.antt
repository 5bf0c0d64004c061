use Rattle.std.proofs.Common.{◌≡◌, drop}
use Rattle.squawk_fix.specs.Round.{comes_first}
use Rattle.squawk_fix.proofs.round.comes_first.Given as goal

abbrev pub invariant-loop-next : goal.invariant-loop-next
invariant-loop-next l = comes_first l.start l.end (drop l.next-index l.later) ≡ comes_first l.start l.end l.later
