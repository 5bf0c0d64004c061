use Rattle.std.proofs.Common.{arith, rules}
use Rattle.std.proofs.lemmas.Grind.{common_steps}
use Rattle.pass_session.proofs.require_timeout_settings.RequireTimeoutSettingsState.report.Goals as goal

pub returns-in_err-report_lock-clause-ok : goal.returns-in_err-report_lock-clause-ok
returns-in_err-report_lock-clause-ok c = search rules

pub returns-in_err-report_lock-clause-err : goal.returns-in_err-report_lock-clause-err
returns-in_err-report_lock-clause-err c = search rules

pub returns-in_err-report_statement-clause-ok : goal.returns-in_err-report_statement-clause-ok
returns-in_err-report_statement-clause-ok c = search rules

pub returns-in_err-report_statement-clause-err : goal.returns-in_err-report_statement-clause-err
returns-in_err-report_statement-clause-err c = search rules

pub returns-in_ok-report_statement-clause-ok : goal.returns-in_ok-report_statement-clause-ok
returns-in_ok-report_statement-clause-ok c = grind (arith, common_steps)

pub returns-in_ok-report_statement-clause-err : goal.returns-in_ok-report_statement-clause-err
returns-in_ok-report_statement-clause-err c = search rules

pub returns-else-is_slow-clause-ok : goal.returns-else-is_slow-clause-ok
returns-else-is_slow-clause-ok c = search rules

pub returns-else-is_slow-clause-err : goal.returns-else-is_slow-clause-err
returns-else-is_slow-clause-err c = search rules
