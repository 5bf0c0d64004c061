use Rattle.std.proofs.Common.{ltb, rules}
use Rattle.std.proofs.lemmas.List.Sorted.{IsPartitionPoint-from_clause, IsPartitionedBy-ltb}
use Rattle.text_pos.proofs.LineFeeds.{count_by-partition, line_from_search}
use Rattle.text_pos.proofs.line.LineIndex.line.Goals as goal

counted : goal.returns-clause-counted
counted c =
    rw (← c.self.view_is, ← c.deref.ensures.value)
    (count_by-partition (λ feed. ltb feed c.args.at) c.deref.result.now c.partition_point.result c.partition_point.ensures.bound
    (IsPartitionPoint-from_clause (λ feed. ltb feed c.args.at) c.deref.result.now c.partition_point.result c.partition_point.ensures.partitioned
    (IsPartitionedBy-ltb (λ feed. feed) c.deref.result.now c.args.at (rw c.deref.ensures.value c.self.invariant.1))
    (search rules)))

pub returns-clause-counted : goal.returns-clause-counted
returns-clause-counted c = counted c

pub returns-clause-line : goal.returns-clause-line
returns-clause-line c = λ text e. line_from_search text c.args.self.now c.args.at c.partition_point.result (counted c) e
