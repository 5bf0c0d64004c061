use Rattle.std.proofs.Common.{arith}
use Rattle.pass_object.proofs.known_objects.KnownObjects.has.Goals as goal

pub returns-in-Type : goal.returns-in-Type
returns-in-Type c = grind arith
