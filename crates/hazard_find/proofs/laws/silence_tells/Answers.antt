use Rattle.hazard_find.proofs.SilenceLaws.{builds_are_unlimited, columns_are_no_json, columns_are_unchecked, indexes_are_dropped_or_guarded, tables_are_kept, transactions_are_kept, views_are_made_first}
use Rattle.hazard_find.proofs.laws.silence_tells.Goals as goal

pub returns-clause-transactions : goal.returns-clause-transactions
returns-clause-transactions c = transactions_are_kept

pub returns-clause-tables : goal.returns-clause-tables
returns-clause-tables c = tables_are_kept

pub returns-clause-checks : goal.returns-clause-checks
returns-clause-checks c = columns_are_unchecked

pub returns-clause-timeouts : goal.returns-clause-timeouts
returns-clause-timeouts c = builds_are_unlimited

pub returns-clause-indexes : goal.returns-clause-indexes
returns-clause-indexes c = indexes_are_dropped_or_guarded

pub returns-clause-views : goal.returns-clause-views
returns-clause-views c = views_are_made_first

pub returns-clause-types : goal.returns-clause-types
returns-clause-types c = columns_are_no_json
