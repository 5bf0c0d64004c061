use Rattle.std.proofs.Common.{Err, subst}
use Rattle.check_config.specs.Readings.{IsReading, IsRefusedReading}
use Rattle.check_config.specs.declared.fault.ConfigError.{ConfigError}
use Rattle.config_file.proofs.Refusals.{text_refused}
use Rattle.config_file.proofs.load.text_config.Goals as goal

pub returns-in-Err-Refused-clause-refused : goal.returns-in-Err-Refused-clause-refused
returns-in-Err-Refused-clause-refused c =
    let fault = c.in-Err-Refused.fault in
    let text = c.args.text.now in
    let why : IsReading text (Err fault) = subst (λ (e : ConfigError). IsRefusedReading text e) c.in-Err-Refused.field-0-is c.in-Err-Refused.ensures.refused in
    text_refused c.args.name.now text fault c.text_line.result c.refused.result why c.text_line.ensures c.refused.ensures
