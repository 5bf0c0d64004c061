use Rattle.law_printed_lines.proofs.Uniqueness.{unique_commands}
use Rattle.law_printed_lines.proofs.unique_commands.Goals as goal

pub returns : goal.returns
returns c = unique_commands
