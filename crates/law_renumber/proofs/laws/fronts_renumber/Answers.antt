use Rattle.law_renumber.proofs.Seen.{for_kept}
use Rattle.law_renumber.proofs.Fronts as law
use Rattle.law_renumber.proofs.laws.fronts_renumber.Goals as goal

pub returns-clause-part : goal.returns-clause-part
returns-clause-part c = for_kept _ law.part_renumbers

pub returns-clause-parts : goal.returns-clause-parts
returns-clause-parts c = for_kept _ law.parts_renumber

pub returns-clause-rows : goal.returns-clause-rows
returns-clause-rows c = for_kept _ law.front_renumbers

pub returns-clause-action_rows : goal.returns-clause-action_rows
returns-clause-action_rows c = for_kept _ law.whole_renumbers

pub returns-clause-piece_rows : goal.returns-clause-piece_rows
returns-clause-piece_rows c = for_kept _ law.whole_renumbers
