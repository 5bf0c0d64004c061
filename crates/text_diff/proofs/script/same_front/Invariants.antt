use Rattle.std.proofs.Common.{◌≡◌, map, take}
use Rattle.text_diff.proofs.script.same_front.Given as goal

abbrev pub invariant-loop-i : goal.invariant-loop-i
invariant-loop-i l = map (λ line. line.now) (take l.i l.old) ≡ map (λ line. line.now) (take l.i l.new)
