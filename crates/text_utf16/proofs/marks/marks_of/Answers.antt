use Rattle.std.proofs.Common.{◌≡◌, ◌+◌, ◌*◌, drop, take, length, arith, ap, ◌∙◌}
use Rattle.std.proofs.lemmas.List.{length-append}
use Rattle.text_utf16.proofs.Counting.{units_stride}
use Rattle.text_utf16.proofs.Marking.{mark_pushed}
use Rattle.text_utf16.specs.Marks.{stride}
use Rattle.text_utf16.specs.Units.{units}
use Rattle.text_utf16.proofs.marks.marks_of.Goals as goal

pub loop-mark-preserved : goal.loop-mark-preserved
loop-mark-preserved c =
    let here : c.count_units-count.result ≡ units (take stride (drop (c.loop-mark.mark * stride) c.args.text.now)) = c.count_units-count.ensures ∙ ap units c.bytes_at.ensures.value in (
      ap length c.in_ok-push.ensures.items ∙ length-append c.loop-mark.marks.items _ ∙ ap (λ n. n + 1) c.loop-mark.invariant.0,
      omega (arith, c.loop-mark.invariant.1, here, units_stride c.args.text.now c.loop-mark.mark),
      mark_pushed c.args.text.now c.loop-mark.marks.items c.push.new.self.items c.loop-mark.mark c.loop-mark.count c.loop-mark.invariant.0 c.loop-mark.invariant.1 c.loop-mark.invariant.2 c.in_ok-push.ensures.items,
    )
