use Rattle.std.proofs.Common.{subst, sym}
use Rattle.fix_asked.specs.fix_run.Outcomes.{ArePlacedIn}
use Rattle.fix_text.specs.Fixing.{FixedValue}
use Rattle.fix_command.proofs.fixer.outcome_of.Goals as goal

pub returns-in_ok-made-in-Err-clause-answer : goal.returns-in_ok-made-in-Err-clause-answer
returns-in_ok-made-in-Err-clause-answer c = c.in_ok-made-in-Err.ensures.answer c.args.wide c.args.linter.now

pub returns-in-Ok-clause-placed : goal.returns-in-Ok-clause-placed
returns-in-Ok-clause-placed c = subst (λ (fixed : FixedValue). ArePlacedIn c.args.text.now fixed.others) (sym c.fixed.view_is) c.in-Ok.ensures.placed
