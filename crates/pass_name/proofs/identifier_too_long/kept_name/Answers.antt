use Rattle.std.proofs.Common.{rules}
use Rattle.pass_name.proofs.identifier_too_long.kept_name.Goals as goal

pub returns-in_err-format : goal.returns-in_err-format
returns-in_err-format c = search rules

pub returns-in_err-format-2 : goal.returns-in_err-format-2
returns-in_err-format-2 c = search rules
