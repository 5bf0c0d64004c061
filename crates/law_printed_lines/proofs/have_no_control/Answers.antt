use Rattle.std.proofs.Common.{false, true}
use Rattle.law_printed_lines.proofs.Controls.{written_free}
use Rattle.law_printed_lines.proofs.have_no_control.Goals as goal

pub returns : goal.returns
returns c = λ text. (written_free false 0 text, written_free true 0 text)
