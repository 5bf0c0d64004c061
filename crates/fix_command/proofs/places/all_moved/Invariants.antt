use Rattle.std.proofs.Common.{take}
use Rattle.fix_command.specs.Places.{AreMoved}
use Rattle.fix_command.proofs.places.all_moved.Given as goal

-- the fixes so far
abbrev pub invariant-loop-other : goal.invariant-loop-other
invariant-loop-other l = AreMoved l.text (take l.other-index l.others) l.made.items
