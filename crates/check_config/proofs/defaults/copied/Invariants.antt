use Rattle.std.proofs.Common.{◌≡◌, take}
use Rattle.check_config.proofs.defaults.copied.Given as goal

-- the words so far are copied
abbrev pub invariant-loop-i : goal.invariant-loop-i
invariant-loop-i l = l.all ≡ take l.i l.words
