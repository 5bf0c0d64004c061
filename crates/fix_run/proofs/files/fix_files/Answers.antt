use Rattle.std.proofs.Common.{◌∙◌, arith}
use Rattle.fix_run.proofs.Lists.{files_more, have_all, have_next, sound_more}
use Rattle.fix_run.proofs.files.fix_files.Goals as goal

pub loop-i-preserved : goal.loop-i-preserved
loop-i-preserved g c =
    let l = c.loop-i in
    let e = c.in_ok-came.ensures in
    record {
      come = have_next (g.M.Fixer.answers c.args.fixer.now) (g.F.FileStore.content c.args.files.now) (g.F.FileStore.content l.files) (g.F.FileStore.faults c.args.files.now)
          (g.F.FileStore.faults l.files) (g.F.FileStore.faults c.fix_file.new.files) c.args.names.now l.i c.get.result.now l.all.fixed.items c.keep.new.all.fixed.items
          l.all.unread.items c.keep.new.all.unread.items c.in_ok-came.came c.get.ensures l.invariant.come l.invariant.kept e.came
          c.in_ok-keep.ensures.fixed c.in_ok-keep.ensures.unread;
      sound = sound_more l.all.unread.items c.keep.new.all.unread.items c.in_ok-came.came c.in_ok-keep.ensures.unread l.invariant.sound e.sound;
      sound_files = files_more l.all.fixed.items c.keep.new.all.fixed.items c.in_ok-came.came c.in_ok-keep.ensures.fixed l.invariant.sound_files e.sound;
      kept = λ name. e.kept name ∙ l.invariant.kept name;
      later = omega (arith, e.later, l.invariant.later);
    }

pub returns-clause-come : goal.returns-clause-come
returns-clause-come g c =
    have_all (g.M.Fixer.answers c.args.fixer.now) (g.F.FileStore.content c.args.files.now) (g.F.FileStore.faults c.args.files.now) (g.F.FileStore.faults c.loop-i.files) c.args.names.now
    c.loop-i.i c.loop-i.all.fixed.items c.loop-i.all.unread.items (omega arith) c.loop-i.invariant.come
