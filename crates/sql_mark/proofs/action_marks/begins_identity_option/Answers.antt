use Rattle.std.proofs.Common.{arith}
use Rattle.sql_tree.specs.ActionPieces.{identity_option}
use Rattle.sql_mark.proofs.action_marks.begins_identity_option.Goals as goal

pub returns-then-is_keyword-2 : goal.returns-then-is_keyword-2
unfolding identity_option
returns-then-is_keyword-2 c = grind arith
