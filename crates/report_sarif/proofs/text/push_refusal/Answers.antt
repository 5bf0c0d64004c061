use Rattle.std.proofs.Common.{ap, ◌∙◌}
use Rattle.serde_json.specs.Written.{has_float}
use Rattle.report_sarif.proofs.NoFloats.{refusal_has_no_float}
use Rattle.report_sarif.proofs.text.push_refusal.Goals as goal

pub push_value-requires : goal.push_value-requires
push_value-requires c = ap has_float c.in_ok-value.ensures ∙ refusal_has_no_float c.args.file.now c.args.refusal.now
