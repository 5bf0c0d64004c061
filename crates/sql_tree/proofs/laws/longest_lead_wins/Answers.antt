use Rattle.sql_tree.proofs.LeadLaws.{longest_lead_wins}
use Rattle.sql_tree.proofs.laws.longest_lead_wins.Goals as goal

pub returns : goal.returns
returns c = longest_lead_wins
