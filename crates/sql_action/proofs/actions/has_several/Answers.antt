use Rattle.std.proofs.Common.{arith}
use Rattle.sql_action.proofs.actions.has_several.Goals as goal

pub returns-in_default : goal.returns-in_default
returns-in_default c = grind arith

pub returns-in-AlterTable : goal.returns-in-AlterTable
returns-in-AlterTable c = grind arith
