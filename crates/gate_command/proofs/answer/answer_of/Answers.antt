use Rattle.gate_command.proofs.answer.answer_of.Goals as goal

pub returns : goal.returns
returns c =
    record { outcome = c.in_ok-outcome.outcome; came = c.in_ok-outcome.ensures.outcome; status_is = c.status_of-status.ensures; bytes_are = c.in_ok-bytes.ensures }
