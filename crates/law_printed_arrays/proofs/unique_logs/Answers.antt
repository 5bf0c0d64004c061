use Rattle.law_printed_arrays.proofs.Uniqueness.{unique_logs}
use Rattle.law_printed_arrays.proofs.unique_logs.Goals as goal

pub returns : goal.returns
returns c = unique_logs
