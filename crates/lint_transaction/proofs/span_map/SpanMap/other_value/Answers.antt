use Rattle.std.proofs.Common.{◌∙◌, sym, ap, cond, Some}
use Rattle.lint_transaction.specs.Transaction.{same_path}
use Rattle.lint_transaction.specs.SpanKey.{key_of}
use Rattle.lint_transaction.specs.SpanMap.{Values}
use Rattle.lint_transaction.proofs.MapLaws.{other_next}
use Rattle.lint_transaction.proofs.span_map.SpanMap.other_value.Goals as goal
use Rattle.lint_transaction.proofs.span_map.SpanMap.other_value.Goals.{then-is_same, else-is_same}

pub loop-kept-preserved : goal.loop-kept-preserved
loop-kept-preserved g c =
    let next = other_next c.args.self.now.key c.args.p.now (key_of c.args.self.now.key c.args.p.now c.args.span) c.as_slice-kept-items.result.now c.loop-kept.kept-index c.kept-item.result c.loop-kept.value c.if-is_same.value c.is_same.result
    c.loop-kept-test.true c.kept-item.is c.loop-kept.invariant
    (c.is_same.ensures ∙ ap (λ (k : Values _). same_path (key_of k.key c.args.p.now c.args.span) (key_of k.key c.args.p.now c.kept-item.result.span)) c.self.view_is) in
    elim c.if-is_same.branch [
      | then-is_same w ↦ next (w.value-is ∙ ap (λ b. cond b (Some c.kept-item.result.value) c.loop-kept.value) (sym w.if-is_same.true))
      | else-is_same w ↦ next (w.value-is ∙ ap (λ b. cond b (Some c.kept-item.result.value) c.loop-kept.value) (sym w.if-is_same.false))
    ]
