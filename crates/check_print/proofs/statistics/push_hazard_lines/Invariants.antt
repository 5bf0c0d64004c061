use Rattle.std.proofs.Common.{◌≡◌, ◌++◌, drop, flat_map}
use Rattle.check_print.specs.Statistics.{hazard_line}
use Rattle.check_print.proofs.statistics.push_hazard_lines.Given as goal

-- what was added, and then the lines of the hazards that are left
abbrev pub invariant-loop-hazard : goal.invariant-loop-hazard
invariant-loop-hazard l = l.to.items ++ flat_map (hazard_line l.files) (drop l.hazard-index l.hazards) ≡ l.initial.to.items ++ flat_map (hazard_line l.files) l.hazards
