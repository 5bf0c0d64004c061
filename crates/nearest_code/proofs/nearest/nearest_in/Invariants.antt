use Rattle.std.proofs.Common.{◌≡◌, take}
use Rattle.nearest_code.specs.Nearest.{IsNearestOf, edits}
use Rattle.nearest_code.proofs.nearest.nearest_in.Given as goal

-- the nearest of those so far, and how near it is
abbrev pub invariant-loop-i : goal.invariant-loop-i
invariant-loop-i l = record { least : l.least ≡ edits l.text l.nearest; nearest : IsNearestOf (take l.i l.codes) l.text l.nearest }
