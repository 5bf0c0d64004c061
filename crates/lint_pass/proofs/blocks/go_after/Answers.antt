use Rattle.std.proofs.Common.{arith}
use Rattle.lint_pass.proofs.BlockLaws.{not_stamped}
use Rattle.lint_pass.proofs.blocks.go_after.Goals as goal

pub returns-else-is_update-clause-opening : goal.returns-else-is_update-clause-opening
returns-else-is_update-clause-opening c = grind (arith, not_stamped)
