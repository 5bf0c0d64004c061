use Rattle.squawk_cli.proofs.Fitting.{answers_fit, told_apart}
use Rattle.squawk_cli.proofs.laws.printed_answers_tell_apart.Goals as goal

pub returns-clause-fit : goal.returns-clause-fit
returns-clause-fit c = answers_fit c.answers_placed.ensures.placed

pub returns-clause-apart : goal.returns-clause-apart
returns-clause-apart c = told_apart c.printed_form_is_exact.ensures (answers_fit c.answers_placed.ensures.placed)
