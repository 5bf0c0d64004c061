use Rattle.law_printed_lines.proofs.Uniqueness.{unique_gcc}
use Rattle.law_printed_lines.proofs.unique_gcc.Goals as goal

pub returns : goal.returns
returns c = unique_gcc
