use Rattle.std.proofs.Common.{rules}
use Rattle.pass_data_type.proofs.prefer_text_field.report.Goals as goal

pub returns-in_err-fix : goal.returns-in_err-fix
returns-in_err-fix c = search rules
