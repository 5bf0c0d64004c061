use Rattle.law_hazards.proofs.AdditionLaws.{only_ours_get_checks, only_ours_get_json}
use Rattle.law_hazards.proofs.BuildLaws.{builds_have_time, invalid_indexes_are_seen}
use Rattle.law_hazards.proofs.InsideLaws.{nothing_is_refused_inside}
use Rattle.law_hazards.proofs.RewriteLaws.{only_ours_are_rewritten}
use Rattle.law_hazards.proofs.ViewLaws.{views_are_new}
use Rattle.law_hazards.proofs.laws.hazards_not_found.Goals as goal

pub returns-clause-statement_in_transaction : goal.returns-clause-statement_in_transaction
returns-clause-statement_in_transaction c = nothing_is_refused_inside c.silence_tells.ensures.transactions

pub returns-clause-table_rewrite : goal.returns-clause-table_rewrite
returns-clause-table_rewrite c = only_ours_are_rewritten c.silence_tells.ensures.tables

pub returns-clause-column_with_check : goal.returns-clause-column_with_check
returns-clause-column_with_check c = only_ours_get_checks c.silence_tells.ensures.checks

pub returns-clause-build_under_timeout : goal.returns-clause-build_under_timeout
returns-clause-build_under_timeout c = builds_have_time c.silence_tells.ensures.timeouts

pub returns-clause-invalid_index_kept : goal.returns-clause-invalid_index_kept
returns-clause-invalid_index_kept c = invalid_indexes_are_seen c.silence_tells.ensures.indexes

pub returns-clause-refresh_blocks_reads : goal.returns-clause-refresh_blocks_reads
returns-clause-refresh_blocks_reads c = views_are_new c.silence_tells.ensures.views

pub returns-clause-json_column : goal.returns-clause-json_column
returns-clause-json_column c = only_ours_get_json c.silence_tells.ensures.types
