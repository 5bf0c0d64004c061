use Rattle.law_type_fixes.proofs.TypesApart.{types_apart}
use Rattle.law_type_fixes.proofs.laws.types_are_apart.Goals as goal

pub returns : goal.returns
returns c = types_apart
