use Rattle.check_setup.proofs.Setting.{baseline_refused}
use Rattle.check_setup.proofs.setup.load_setup.Goals as goal

pub returns-in-Err-load_filter-clause-refused : goal.returns-in-Err-load_filter-clause-refused
returns-in-Err-load_filter-clause-refused g c =
    let content = g.F.FileStore.content in
    let faults = g.F.FileStore.faults in
    let load = c.load_config.ensures in
    baseline_refused (content c.args.files.now) (content c.load_config.new.files) (faults c.args.files.now) (faults c.load_config.new.files) (faults c.load_filter.new.files) c.args.request.now _
    c.in-Err-load_filter.error load.kept load.later c.baseline_name.ensures c.in-Err-load_filter.ensures.refused
