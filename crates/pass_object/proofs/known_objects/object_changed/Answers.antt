use Rattle.std.proofs.Common.{arith}
use Rattle.pass_object.proofs.known_objects.object_changed.Goals as goal

pub returns-in-AlterTable : goal.returns-in-AlterTable
returns-in-AlterTable c = grind arith
