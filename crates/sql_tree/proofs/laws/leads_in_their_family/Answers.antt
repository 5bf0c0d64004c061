use Rattle.sql_tree.proofs.LeadLaws.{leads_in_their_family}
use Rattle.sql_tree.proofs.laws.leads_in_their_family.Goals as goal

pub returns : goal.returns
returns c = leads_in_their_family
