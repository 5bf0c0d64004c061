use Rattle.std.proofs.Common.{false, true}
use Rattle.law_printed_lines.proofs.Escaping.{written_same}
use Rattle.law_printed_lines.proofs.unique_escapes.Goals as goal

pub returns : goal.returns
returns c = λ x y. (written_same false x y, written_same true x y)
