use Rattle.std.proofs.Common.{arith}
use Rattle.std.proofs.lemmas.Grind.{common_steps}
use Rattle.sql_tree.specs.ColumnType.{array_by_word}
use Rattle.sql_type.proofs.array.array_by_word.Goals as goal

pub returns-then-closing-groups : goal.returns-then-closing-groups
unfolding array_by_word
returns-then-closing-groups c = grind (arith, common_steps)
