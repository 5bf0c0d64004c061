use Rattle.std.proofs.Common.{arith}
use Rattle.pass_data_type.proofs.require_enum_value_ordering.report_action.Goals as goal

pub returns-in_ok-report-clause-ok : goal.returns-in_ok-report-clause-ok
returns-in_ok-report-clause-ok c = grind arith
