use Rattle.std.proofs.Common.{arith}
use Rattle.std.proofs.lemmas.Grind.{common_steps}
use Rattle.lint_base.specs.GrownLaws.{at_err}
use Rattle.lint_pass.specs.PairLaws.{pair_kept}
use Rattle.lint_pass.proofs.pair.PairStepPass.finish.Goals as goal

pub returns-in_err-append-clause-err : goal.returns-in_err-append-clause-err
returns-in_err-append-clause-err g c =
    at_err _ (pair_kept _ _ _ _ _ _ _ _ c.in_ok-finish.ensures.ok c.in_err-append.ensures.err c.requires.state.2 (g.B.StepPass.whole _ _ _ _))

pub returns-clause-ok : goal.returns-clause-ok
returns-clause-ok g c = grind (arith, common_steps)

pub returns-in_err-finish-2-clause-err : goal.returns-in_err-finish-2-clause-err
returns-in_err-finish-2-clause-err g c = grind (arith, common_steps)
