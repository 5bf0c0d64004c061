use Rattle.std.proofs.Common.{arith}
use Rattle.std.proofs.lemmas.Grind.{common_steps}
use Rattle.std.proofs.Common.{◌∙◌}
use Rattle.sql_lex.proofs.Stacks.{pass_by}
use Rattle.sql_lex.proofs.sound.nests.Goals as goal

pub loop-left-preserved-then-stands_anywhere : goal.loop-left-preserved-then-stands_anywhere
loop-left-preserved-then-stands_anywhere c =
    pass_by c.loop-left.brackets c.loop-left.left.now _ c.in-len1-up.len_at_least (c.stands_anywhere.ensures c.if-stands_anywhere.true) ∙ c.loop-left.invariant

pub loop-left-preserved : goal.loop-left-preserved
loop-left-preserved c = grind (arith, common_steps)

pub loop-left-preserved-else-not-has_same_kind : goal.loop-left-preserved-else-not-has_same_kind
loop-left-preserved-else-not-has_same_kind c = grind (arith, common_steps)
