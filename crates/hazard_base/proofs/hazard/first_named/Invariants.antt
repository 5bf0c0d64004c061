use Rattle.std.proofs.Common.{◌≡◌, find, drop}
use Rattle.hazard_base.specs.Hazards.{is_named}
use Rattle.hazard_base.proofs.hazard.first_named.Given as goal

-- the first of those that are left is the first of all
abbrev pub invariant-loop-hazard : goal.invariant-loop-hazard
invariant-loop-hazard l = find (is_named l.text) (drop l.hazard-index l.hazards) ≡ find (is_named l.text) l.hazards
