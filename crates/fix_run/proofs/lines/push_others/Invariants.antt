use Rattle.std.proofs.Common.{◌≡◌, ◌++◌, take}
use Rattle.std.specs.List.{flat_map}
use Rattle.fix_run.specs.Giving.{note_of}
use Rattle.fix_run.proofs.lines.push_others.Given as goal

-- the notes so far were added
abbrev pub invariant-loop-other : goal.invariant-loop-other
invariant-loop-other l = l.to.items ≡ l.initial.to.items ++ flat_map (note_of l.file) (take l.other-index l.others)
