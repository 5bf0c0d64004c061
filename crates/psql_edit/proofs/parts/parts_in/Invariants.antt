use Rattle.psql_edit.proofs.Parting.{Going, left_of}
use Rattle.psql_edit.proofs.parts.parts_in.Given as goal

abbrev pub invariant-parts : goal.invariant-parts
invariant-parts l = Going l.text l.sql.items l.parts.items l.next

abbrev pub decreases-parts : goal.decreases-parts
decreases-parts l = left_of l.text l.next
