use Rattle.lint_ignore.proofs.Parts.{split_some, split_none}
use Rattle.lint_ignore.proofs.part.Part.split_comma.Goals as goal

pub returns-in-Some-clause-pieces : goal.returns-in-Some-clause-pieces
returns-in-Some-clause-pieces c = split_some c.args.self.at c.args.self.text.now c.in-Some.piece c.in-Some.rest c.in-Some.ensures.cases

pub returns-clause-pieces : goal.returns-clause-pieces
returns-clause-pieces c = split_none c.args.self.at c.args.self.text.now c.in_default.ensures.cases
