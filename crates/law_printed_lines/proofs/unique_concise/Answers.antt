use Rattle.law_printed_lines.proofs.Uniqueness.{unique_concise}
use Rattle.law_printed_lines.proofs.unique_concise.Goals as goal

pub returns : goal.returns
returns c = unique_concise
