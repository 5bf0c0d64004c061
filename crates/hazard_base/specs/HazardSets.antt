-- Sets of hazards.
use Rattle.std.specs.Prelude.{Bool}
use Rattle.hazard_base.specs.declared.hazard.Hazard.{Hazard}
use Rattle.hazard_base.specs.declared.hazard.Hazard.TheVariants as hazard
use Rattle.hazard_base.specs.declared.hazard_set.HazardSet.{HazardSet}

-- whether a hazard is in a set
abbrev pub has : HazardSet → Hazard → Bool
has set hazard.StatementInTransaction = set.statement_in_transaction
has set hazard.TableRewrite = set.table_rewrite
has set hazard.ColumnWithCheck = set.column_with_check
has set hazard.BuildUnderTimeout = set.build_under_timeout
has set hazard.InvalidIndexKept = set.invalid_index_kept
has set hazard.RefreshBlocksReads = set.refresh_blocks_reads
has set hazard.JsonColumn = set.json_column

-- the set with a hazard in it, or without it
abbrev pub with_hazard : HazardSet → Hazard → Bool → HazardSet
with_hazard set hazard.StatementInTransaction is_in = record set { statement_in_transaction = is_in }
with_hazard set hazard.TableRewrite is_in = record set { table_rewrite = is_in }
with_hazard set hazard.ColumnWithCheck is_in = record set { column_with_check = is_in }
with_hazard set hazard.BuildUnderTimeout is_in = record set { build_under_timeout = is_in }
with_hazard set hazard.InvalidIndexKept is_in = record set { invalid_index_kept = is_in }
with_hazard set hazard.RefreshBlocksReads is_in = record set { refresh_blocks_reads = is_in }
with_hazard set hazard.JsonColumn is_in = record set { json_column = is_in }
