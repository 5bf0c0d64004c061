use Rattle.std.proofs.Common.{◌≡◌, find, drop}
use Rattle.hazard_ignore.specs.HazardNames.{is_unknown}
use Rattle.hazard_ignore.proofs.hazard_names.first_unknown.Given as goal

-- the first of those that are left is the first of all
abbrev pub invariant-loop-hazard : goal.invariant-loop-hazard
invariant-loop-hazard l = find (is_unknown l.message) (drop l.hazard-index l.hazards) ≡ find (is_unknown l.message) l.hazards
