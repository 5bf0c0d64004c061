use Rattle.squawk_print.proofs.Reports.{printed_tells_apart}
use Rattle.squawk_print.proofs.laws.printed_form_is_exact.Goals as goal

pub returns : goal.returns
returns c = printed_tells_apart
