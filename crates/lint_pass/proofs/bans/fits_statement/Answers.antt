use Rattle.std.proofs.Common.{rules}
use Rattle.lint_pass.proofs.bans.fits_statement.Goals as goal

pub returns-in-Statement : goal.returns-in-Statement
returns-in-Statement c = search rules

pub returns-then-same_kind : goal.returns-then-same_kind
returns-then-same_kind c = search rules

pub returns-else-same_kind : goal.returns-else-same_kind
returns-else-same_kind c = search rules

pub returns-then-same_kind-2 : goal.returns-then-same_kind-2
returns-then-same_kind-2 c = search rules

pub returns-else-same_kind-2 : goal.returns-else-same_kind-2
returns-else-same_kind-2 c = search rules

pub returns-in_default : goal.returns-in_default
returns-in_default c = search rules
