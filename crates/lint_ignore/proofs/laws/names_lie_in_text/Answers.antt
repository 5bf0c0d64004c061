use Rattle.lint_ignore.proofs.Places.{names_lie_in}
use Rattle.lint_ignore.proofs.laws.names_lie_in_text.Goals as goal

pub returns : goal.returns
returns c = names_lie_in
