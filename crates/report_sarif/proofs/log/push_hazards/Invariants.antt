use Rattle.std.proofs.Common.{◌≡◌, ◌++◌, drop, map}
use Rattle.serde_json.specs.View.{view}
use Rattle.report_sarif.specs.Log.{hazard_object}
use Rattle.report_sarif.proofs.log.push_hazards.Given as goal

abbrev pub invariant-loop-hazard : goal.invariant-loop-hazard
invariant-loop-hazard l = map view l.to.items ++ map hazard_object (drop l.hazard-index l.hazards) ≡ map view l.initial.to.items ++ map hazard_object l.hazards
