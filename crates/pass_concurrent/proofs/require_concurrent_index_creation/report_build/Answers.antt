use Rattle.std.proofs.Common.{arith, rules}
use Rattle.pass_concurrent.proofs.require_concurrent_index_creation.report_build.Goals as goal

pub returns-in_ok-report-in-Index-default-default-None-default-default-default-clause-ok : goal.returns-in_ok-report-in-Index-default-default-None-default-default-default-clause-ok
returns-in_ok-report-in-Index-default-default-None-default-default-default-clause-ok c = grind arith

pub returns-then-is_new-clause-ok : goal.returns-then-is_new-clause-ok
returns-then-is_new-clause-ok c = search rules

pub returns-then-is_new-clause-err : goal.returns-then-is_new-clause-err
returns-then-is_new-clause-err c = search rules

pub returns-in_default-clause-ok : goal.returns-in_default-clause-ok
returns-in_default-clause-ok c = search rules

pub returns-in_default-clause-err : goal.returns-in_default-clause-err
returns-in_default-clause-err c = search rules

pub returns-in_default-2 : goal.returns-in_default-2
returns-in_default-2 c = search rules
