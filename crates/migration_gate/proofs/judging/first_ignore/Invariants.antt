use Rattle.std.proofs.Common.{◌≡◌, drop}
use Rattle.migration_gate.specs.Passing.{first_ignore}
use Rattle.migration_gate.proofs.judging.first_ignore.Given as goal

-- the tokens so far are no ignore comments
abbrev pub invariant-loop-i : goal.invariant-loop-i
invariant-loop-i l = first_ignore l.p.text (drop l.i l.p.toks) ≡ first_ignore l.p.text l.p.toks
