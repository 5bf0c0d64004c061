use Rattle.std.proofs.Common.{◌≡◌, ◌-◌}
use Rattle.fix_class.specs.Words.{says_from}
use Rattle.fix_class.proofs.word.says.Given as goal

abbrev pub invariant-loop-i : goal.invariant-loop-i
invariant-loop-i l = says_from l.p l.word l.i (l.end - l.i) ≡ says_from l.p l.word l.s.first (l.end - l.s.first)
