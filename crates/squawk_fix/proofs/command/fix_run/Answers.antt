use Rattle.std.proofs.Common.{subst, sym}
use Rattle.squawk_fix.specs.Lines.{Says}
use Rattle.squawk_fix.proofs.Answered.{answered_weaker}
use Rattle.squawk_fix.proofs.Complete.{is_done}
use Rattle.squawk_fix.proofs.command.fix_run.Goals as goal

pub returns-clause-answered : goal.returns-clause-answered
returns-clause-answered g c =
    answered_weaker _ _ (λ n same. subst (Says c.work-ended.result.status _ _ _) (sym same) c.say_end.ensures) c.work-ended.result.status c.args.words.now _ _ _ c.work-ended.ensures.answered

pub returns-clause-line : goal.returns-clause-line
returns-clause-line g c = (c.work-ended.result.applied, c.say_end.ensures)

pub returns-clause-complete : goal.returns-clause-complete
returns-clause-complete g c =
    let e = c.work-ended.ensures in
    λ taken ns nk. is_done c.work-ended.result.status c.args.words.now _ _ _ _ _ _ _ _ _ e.words e.read e.answered e.source e.sink taken ns nk
