use Rattle.law_printed_arrays.proofs.Uniqueness.{unique_arrays}
use Rattle.law_printed_arrays.proofs.unique_arrays.Goals as goal

pub returns : goal.returns
returns c = unique_arrays
