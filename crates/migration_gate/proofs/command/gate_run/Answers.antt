use Rattle.migration_gate.proofs.Ends.{is_done}
use Rattle.migration_gate.proofs.command.gate_run.Goals as goal

pub returns-clause-complete : goal.returns-clause-complete
returns-clause-complete g c =
    let e = c.work-status.ensures in
    λ taken ns nk. is_done c.work-status.result c.args.words.now _ _ _ _ _ _ _ _ _ e.words e.read e.judged e.source e.sink taken ns nk
