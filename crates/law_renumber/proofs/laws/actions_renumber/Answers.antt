use Rattle.law_renumber.proofs.Seen.{for_kept}
use Rattle.law_renumber.proofs.Actions as law
use Rattle.law_renumber.proofs.ActionPieces as pieces
use Rattle.law_renumber.proofs.laws.actions_renumber.Goals as goal

pub returns-clause-one : goal.returns-clause-one
returns-clause-one c = for_kept _ law.action_renumbers

pub returns-clause-pieces : goal.returns-clause-pieces
returns-clause-pieces c = for_kept _ pieces.pieces_renumber

pub returns-clause-all : goal.returns-clause-all
returns-clause-all c = for_kept _ law.actions_renumber
