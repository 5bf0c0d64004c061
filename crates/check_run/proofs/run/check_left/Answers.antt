use Rattle.std.proofs.lemmas.Result.{IfOk-weaker}
use Rattle.check_run.proofs.run.check_left.Goals as goal

pub returns-clause-left : goal.returns-clause-left
returns-clause-left g c =
    IfOk-weaker c.apply.result _ _ (λ all h. record { files = c.in_ok-checked.checked.items; are = c.in_ok-checked.ensures.checked; filtered = h }) c.apply.ensures.left
