use Rattle.sql_mark.proofs.Cuts.{first_part_left}
use Rattle.sql_mark.specs.Marks.{test_of}
use Rattle.sql_mark.proofs.parts.Parts.next_part.Goals as goal

pub returns-then-count-self : goal.returns-then-count-self
returns-then-count-self c =
    first_part_left (test_of c.self.inside.mark) c.self.inside.earlier c.self.inside.left.now _ c.self.inside.more _ _ c.self.view_is c.if-not-self.false c.before_next-count.ensures.value c.if-count-self.true
