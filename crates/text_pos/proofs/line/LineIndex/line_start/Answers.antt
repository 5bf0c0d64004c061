use Rattle.std.proofs.Common.{◌≡◌, ◌+◌, ◌-◌, ◌<◌, ◌∙◌, arith, ltb, rules, get_or, sym, ap, ℕ, List, length}
use Rattle.std.proofs.lemmas.List.{get_or_default}
use Rattle.std.proofs.lemmas.List.Sorted.{IsPartitionPoint-from_clause, IsPartitionedBy-ltb}
use Rattle.text_pos.proofs.LineFeeds.{Splits, feed_below, starts_after, starts_first}
use Rattle.text_pos.proofs.line.LineIndex.line_start.Goals as goal

pub overflow_add-index : goal.overflow_add-index
overflow_add-index c =
    let splits : Splits c.deref.result.now c.args.at c.partition_point-line.result =
    IsPartitionPoint-from_clause (λ feed. ltb feed c.args.at) c.deref.result.now c.partition_point-line.result c.partition_point-line.ensures.partitioned
    (IsPartitionedBy-ltb (λ feed. feed) c.deref.result.now c.args.at (rw c.deref.ensures.value c.self.invariant.1))
    (search rules) in
    let some : 0 < c.partition_point-line.result = omega (arith, c.if-line-eq0.false) in
    let below = feed_below c.deref.result.now c.args.at c.partition_point-line.result some splits in
    let here : c.index.result.now ≡ get_or c.deref.result.now (c.partition_point-line.result - 1) 0 =
    c.index.ensures ∙ (get_or_default c.self.inside.feeds.items (c.partition_point-line.result - 1) c.index.result.now 0 (omega (arith, some, c.partition_point-line.ensures.bound, ap length c.deref.ensures.value))
    ∙ ap (λ (xs : List ℕ). get_or xs (c.partition_point-line.result - 1) 0) (sym c.deref.ensures.value)) in
    omega (arith, below, here, c.raw-at.ensures.in_range)

pub returns-then-line-eq0 : goal.returns-then-line-eq0
returns-then-line-eq0 c = λ text e within.
    let splits : Splits c.deref.result.now c.args.at c.partition_point-line.result =
    IsPartitionPoint-from_clause (λ feed. ltb feed c.args.at) c.deref.result.now c.partition_point-line.result c.partition_point-line.ensures.partitioned
    (IsPartitionedBy-ltb (λ feed. feed) c.deref.result.now c.args.at (rw c.deref.ensures.value c.self.invariant.1))
    (search rules) in
    c.new.ensures ∙ starts_first text c.deref.result.now c.args.at c.partition_point-line.result c.if-line-eq0.true splits
    (c.deref.ensures.value ∙ (c.self.view_is ∙ e)) within

pub returns-else-line-eq0 : goal.returns-else-line-eq0
returns-else-line-eq0 c = λ text e within.
    let splits : Splits c.deref.result.now c.args.at c.partition_point-line.result =
    IsPartitionPoint-from_clause (λ feed. ltb feed c.args.at) c.deref.result.now c.partition_point-line.result c.partition_point-line.ensures.partitioned
    (IsPartitionedBy-ltb (λ feed. feed) c.deref.result.now c.args.at (rw c.deref.ensures.value c.self.invariant.1))
    (search rules) in
    let some : 0 < c.partition_point-line.result = omega (arith, c.if-line-eq0.false) in
    let here : c.index.result.now ≡ get_or c.deref.result.now (c.partition_point-line.result - 1) 0 =
    c.index.ensures ∙ (get_or_default c.self.inside.feeds.items (c.partition_point-line.result - 1) c.index.result.now 0 (omega (arith, some, c.partition_point-line.ensures.bound, ap length c.deref.ensures.value))
    ∙ ap (λ (xs : List ℕ). get_or xs (c.partition_point-line.result - 1) 0) (sym c.deref.ensures.value)) in
    c.new-else-line-eq0.ensures ∙ (ap (λ (x : ℕ). x + 1) here
    ∙ starts_after text c.deref.result.now c.args.at c.partition_point-line.result some c.partition_point-line.ensures.bound splits
    (c.deref.ensures.value ∙ (c.self.view_is ∙ e)) within)
