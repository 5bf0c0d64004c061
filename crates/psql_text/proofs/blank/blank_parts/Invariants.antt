use Rattle.psql_text.proofs.Going.{Going, left_of}
use Rattle.psql_text.proofs.blank.blank_parts.Given as goal

abbrev pub invariant-parts : goal.invariant-parts
invariant-parts l = Going l.bytes l.fn.first l.text.items l.counts l.next

abbrev pub decreases-parts : goal.decreases-parts
decreases-parts l = left_of l.bytes l.next
