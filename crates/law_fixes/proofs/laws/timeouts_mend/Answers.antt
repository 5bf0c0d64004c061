use Rattle.law_fixes.proofs.TimeoutFixes.{timeouts_mend}
use Rattle.law_fixes.proofs.laws.timeouts_mend.Goals as goal

pub returns : goal.returns
returns c = timeouts_mend
