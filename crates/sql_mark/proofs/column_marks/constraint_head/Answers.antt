use Rattle.std.proofs.Common.{arith}
use Rattle.sql_tree.specs.ColumnMarks.{constraint_head}
use Rattle.sql_mark.proofs.column_marks.constraint_head.Goals as goal

pub returns-else-is_keyword : goal.returns-else-is_keyword
unfolding constraint_head
returns-else-is_keyword c = grind arith

pub returns-then-is_keyword : goal.returns-then-is_keyword
unfolding constraint_head
returns-then-is_keyword c = grind arith
