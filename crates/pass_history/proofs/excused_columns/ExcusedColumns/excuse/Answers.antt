use Rattle.std.proofs.Common.{rules}
use Rattle.pass_history.proofs.excused_columns.ExcusedColumns.excuse.Goals as goal

pub returns-in-Some-check_on-clause-keyed : goal.returns-in-Some-check_on-clause-keyed
returns-in-Some-check_on-clause-keyed c = search rules

pub returns-in-Some-check_on-clause-checks : goal.returns-in-Some-check_on-clause-checks
returns-in-Some-check_on-clause-checks c = search rules

pub returns-in-Some-check_on-clause-ok : goal.returns-in-Some-check_on-clause-ok
returns-in-Some-check_on-clause-ok c = search rules

pub returns-in-None-check_on-clause-keyed : goal.returns-in-None-check_on-clause-keyed
returns-in-None-check_on-clause-keyed c = search rules

pub returns-in-None-check_on-clause-checks : goal.returns-in-None-check_on-clause-checks
returns-in-None-check_on-clause-checks c = search rules

pub returns-in-None-check_on-clause-ok : goal.returns-in-None-check_on-clause-ok
returns-in-None-check_on-clause-ok c = search rules

pub returns-in-None-clause-keyed : goal.returns-in-None-clause-keyed
returns-in-None-clause-keyed c = search rules

pub returns-in-None-clause-checks : goal.returns-in-None-clause-checks
returns-in-None-clause-checks c = search rules

pub returns-in-None-clause-ok : goal.returns-in-None-clause-ok
returns-in-None-clause-ok c = search rules
