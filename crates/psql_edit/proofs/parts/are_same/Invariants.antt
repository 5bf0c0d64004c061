use Rattle.std.proofs.Common.{◌≡◌, map, take}
use Rattle.psql_edit.specs.Exchange.{piece}
use Rattle.psql_edit.proofs.parts.are_same.Given as goal

-- the parts so far are the same
abbrev pub invariant-loop-i : goal.invariant-loop-i
invariant-loop-i l = map (piece l.new) (take l.i l.others) ≡ map (piece l.old) (take l.i l.parts)
