use Rattle.std.proofs.Common.{arith}
use Rattle.pass_data_type.proofs.changing_column_type.ChangingColumnTypeBanPass.rows.Goals as goal

pub returns : goal.returns
returns c = grind arith
