use Rattle.std.proofs.Common.{refl}
use Rattle.law_type_fixes.proofs.laws.rules_are_those_of_passes.Goals as goal

pub returns-clause-varchars : goal.returns-clause-varchars
returns-clause-varchars c tree st = refl

pub returns-clause-timestamps : goal.returns-clause-timestamps
returns-clause-timestamps c tree st = refl

pub returns-clause-ints : goal.returns-clause-ints
returns-clause-ints c tree st = refl

pub returns-clause-smallints : goal.returns-clause-smallints
returns-clause-smallints c tree st = refl
