use Rattle.std.proofs.Common.{◌≡◌, ◌-◌}
use Rattle.pass_session.specs.Tokens.{last_word}
use Rattle.pass_session.proofs.tokens.last_word.Given as goal

-- the last word up to here is that of all
abbrev pub invariant-loop-number : goal.invariant-loop-number
invariant-loop-number l = last_word l.p l.first l.number ≡ last_word l.p l.first l.last

abbrev pub decreases-loop-number : goal.decreases-loop-number
decreases-loop-number l = l.number - l.first
