use Rattle.std.proofs.Common.{arith, rules}
use Rattle.lint_pass.proofs.pair.PairStepPass.step.Goals as goal

pub returns-clause-ok : goal.returns-clause-ok
returns-clause-ok g c = grind arith

pub returns-clause-state : goal.returns-clause-state
returns-clause-state g c = grind arith

pub returns-in_err-step-2-clause-err : goal.returns-in_err-step-2-clause-err
returns-in_err-step-2-clause-err g c = search rules
