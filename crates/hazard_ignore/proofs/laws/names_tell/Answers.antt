use Rattle.hazard_ignore.proofs.NameLaws.{unknown_names_are_told, unused_names_stay}
use Rattle.hazard_ignore.proofs.laws.names_tell.Goals as goal

pub returns-clause-unknown : goal.returns-clause-unknown
returns-clause-unknown c = unknown_names_are_told

pub returns-clause-unused : goal.returns-clause-unused
returns-clause-unused c = unused_names_stay
