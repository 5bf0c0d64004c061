use Rattle.std.proofs.Common.{rules}
use Rattle.pass_session.proofs.require_timeout_settings.sets.Goals as goal

pub returns-then-path : goal.returns-then-path
returns-then-path c = search rules

pub returns-else-path : goal.returns-else-path
returns-else-path c = search rules

pub returns-in-None : goal.returns-in-None
returns-in-None c = search rules
