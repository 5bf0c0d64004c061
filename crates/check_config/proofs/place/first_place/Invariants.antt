use Rattle.std.proofs.Common.{◌≡◌, drop, true}
use Rattle.check_config.specs.Faults.{place_from}
use Rattle.check_config.proofs.place.first_place.Given as goal

-- the first place from here on is the first of all
abbrev pub invariant-loop-i : goal.invariant-loop-i
invariant-loop-i l = place_from l.anywhere l.name (drop l.i l.text) l.begins_line l.i ≡ place_from l.anywhere l.name l.text true 0
