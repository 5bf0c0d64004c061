use Rattle.migration_gate.proofs.Reading.{around}
use Rattle.migration_gate.proofs.entry.around_first.Goals as goal

pub returns : goal.returns
returns c = around c.args.mark c.args.text.now c.split_once.result c.split_once.ensures.cases c.requires
