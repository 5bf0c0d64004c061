use Rattle.std.proofs.Common.{◌≡◌, ◌++◌, drop, map}
use Rattle.lint_report.specs.declared.code.Code.TheVariants as code
use Rattle.nearest_code.proofs.all.push_hazards.Given as goal

-- what was added, and what is left, is all
abbrev pub invariant-loop-hazard : goal.invariant-loop-hazard
invariant-loop-hazard l = l.codes.items ++ map (λ hazard. code.Hazard hazard) (drop l.hazard-index l.hazards) ≡ l.initial.codes.items ++ map (λ hazard. code.Hazard hazard) l.hazards
