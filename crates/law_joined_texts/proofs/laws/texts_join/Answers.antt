use Rattle.law_joined_texts.proofs.Joins.{finished_stays, trees_join, valid_texts_join}
use Rattle.law_joined_texts.proofs.laws.texts_join.Goals as goal

pub returns-clause-trees : goal.returns-clause-trees
returns-clause-trees c = trees_join

pub returns-clause-finished : goal.returns-clause-finished
returns-clause-finished c = finished_stays

pub returns-clause-valid : goal.returns-clause-valid
returns-clause-valid c = valid_texts_join
