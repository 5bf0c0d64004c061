use Rattle.std.proofs.Common.{arith}
use Rattle.pass_object.proofs.known_objects.path_created.Goals as goal

pub returns-in-Made : goal.returns-in-Made
returns-in-Made c = grind arith
