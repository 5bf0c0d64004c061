use Rattle.std.proofs.Common.{refl}
use Rattle.psql_text.proofs.statement.Statement.new.Goals as goal

pub returns-clause-summary : goal.returns-clause-summary
returns-clause-summary c = refl
