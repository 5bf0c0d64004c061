use Rattle.lint_transaction.proofs.EventLaws.{each_event-next, any_event-next, since_event-next, last_event-next}
use Rattle.lint_transaction.proofs.laws.histories_grow.Goals as goal

pub returns-clause-each : goal.returns-clause-each
returns-clause-each g c = each_event-next

pub returns-clause-any : goal.returns-clause-any
returns-clause-any g c = any_event-next

pub returns-clause-since : goal.returns-clause-since
returns-clause-since g c = since_event-next

pub returns-clause-last : goal.returns-clause-last
returns-clause-last g c = last_event-next
