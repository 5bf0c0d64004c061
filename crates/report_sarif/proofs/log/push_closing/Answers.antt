use Rattle.std.proofs.Common.{ap, ◌∙◌}
use Rattle.serde_json.specs.Written.{has_float}
use Rattle.report_sarif.proofs.NoFloats.{tool_has_no_float}
use Rattle.report_sarif.proofs.log.push_closing.Goals as goal

pub push_value-requires : goal.push_value-requires
push_value-requires c = ap has_float c.in_ok-tool.ensures ∙ tool_has_no_float
