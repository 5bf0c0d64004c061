use Rattle.gate_command.proofs.Opening.{tells_open}
use Rattle.gate_command.proofs.left_open.is_open.Goals as goal

pub returns-in-Ok : goal.returns-in-Ok
returns-in-Ok c = tells_open c.args.text.now c.in-Ok.file c.ends_in_transaction.result c.in-Ok.ensures.ok (λ t h. c.in-Ok.ensures.valid t h) c.ends_in_transaction.ensures
