use Rattle.law_printed_arrays.proofs.Uniqueness.{unique_issues}
use Rattle.law_printed_arrays.proofs.unique_issues.Goals as goal

pub returns : goal.returns
returns c = unique_issues
