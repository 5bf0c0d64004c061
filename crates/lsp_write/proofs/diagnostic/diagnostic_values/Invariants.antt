use Rattle.std.proofs.Common.{◌≡◌, map, take}
use Rattle.serde_json.specs.View.{view}
use Rattle.lsp_write.specs.Diagnostic.{diagnostic_json}
use Rattle.lsp_write.proofs.diagnostic.diagnostic_values.Given as goal

-- the values so far
abbrev pub invariant-loop-report : goal.invariant-loop-report
invariant-loop-report l = map view l.values.items ≡ map diagnostic_json (take l.report-index l.reports)
