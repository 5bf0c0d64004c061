use Rattle.std.proofs.Common.{◌∙◌}
use Rattle.fix_class.specs.Known.{is_assumed, known_at}
use Rattle.fix_class.proofs.Knowing.{known_is, more_count, more_known}
use Rattle.fix_class.proofs.known.each_known.Goals as goal

pub loop-i-preserved : goal.loop-i-preserved
loop-i-preserved c =
    let p = c.args.p.now in
    let settings = c.args.settings.now in
    let l = c.loop-i in
    record {
      count = more_count l.all.items _ _ l.i l.invariant.count c.in_ok-push.ensures.items;
      transaction = c.step-is_limited.ensures.transaction (is_assumed settings p) l.invariant.transaction;
      limited = c.step-is_limited.ensures.limited;
      key = c.in_ok-keep.ensures.key;
      partitioned = c.in_ok-keep.ensures.kept l.invariant.partitioned;
      work = l.invariant.work;
      major = l.invariant.major;
      each = more_known (known_at settings p) l.all.items _ _ l.i l.invariant.count c.in_ok-push.ensures.items l.invariant.each
          (known_is settings p l.i _ _ _ _ _ (c.inside.ensures ∙ l.invariant.transaction) l.invariant.limited (c.is_on_partitioned.ensures l.invariant.partitioned)
          l.invariant.work l.invariant.major);
    }
