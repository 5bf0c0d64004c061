use Rattle.law_type_fixes.proofs.Moves as law
use Rattle.law_type_fixes.proofs.laws.statements_move.Goals as goal

pub returns : goal.returns
returns c = law.statements_move
