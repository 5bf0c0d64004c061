use Rattle.squawk_diag.proofs.Complete.{is_done}
use Rattle.squawk_diag.proofs.command.diag_run.Goals as goal

pub returns-clause-complete : goal.returns-clause-complete
returns-clause-complete g c =
    let e = c.work-status.ensures in
    λ taken ns nk. is_done c.work-status.result c.args.words.now _ _ _ _ _ _ _ _ e.words e.read e.answered e.source e.sink taken ns nk
