use Rattle.std.proofs.Common.{◌≡◌, ◌+◌}
use Rattle.hazard_find.specs.Guards.{tokens_show}
use Rattle.hazard_find.proofs.guards.tokens_show.Given as goal

-- the tokens so far have not the word
abbrev pub invariant-loop-i : goal.invariant-loop-i
invariant-loop-i l = tokens_show l.p l.word (l.fn.last + 1) l.i ≡ tokens_show l.p l.word (l.fn.last + 1) l.fn.first
