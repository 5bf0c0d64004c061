use Rattle.std.proofs.Common.{ap, ◌∙◌}
use Rattle.serde_json.specs.Written.{has_float}
use Rattle.report_sarif.proofs.NoFloats.{report_has_no_float}
use Rattle.report_sarif.proofs.text.push_report.Goals as goal

pub push_value-requires : goal.push_value-requires
push_value-requires c = ap has_float c.in_ok-value.ensures ∙ report_has_no_float c.args.file.now c.args.report.now
