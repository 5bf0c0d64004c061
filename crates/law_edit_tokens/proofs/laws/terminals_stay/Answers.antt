use Rattle.law_edit_tokens.proofs.Terminals.{terminals_reread}
use Rattle.law_edit_tokens.proofs.laws.terminals_stay.Goals as goal

pub returns : goal.returns
returns c = terminals_reread
