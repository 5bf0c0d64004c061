use Rattle.std.proofs.Common.{List, subst}
use Rattle.fix_output.specs.declared.file.FixedFile.{FixedFile}
use Rattle.fix_run.specs.declared.give.Delivery.{Delivery}
use Rattle.fix_run.specs.Giving.{IsCut, Sinks}
use Rattle.fix_run.specs.Runs.{Late}
use Rattle.fix_run.proofs.run.fix.Goals as goal

pub returns-in-Err-give-clause-stopped : goal.returns-in-Err-give-clause-stopped
returns-in-Err-give-clause-stopped g c =
    let files = c.in-Ok.plan.files in
    let old : Sinks = record {
      held = g.K.Sink.held c.args.out.now;
      faults = g.K.Sink.faults c.args.out.now;
      written = g.W.FileWriter.content c.args.writer.now;
      write_faults = g.W.FileWriter.faults c.args.writer.now;
    } in
    let new : Sinks = record {
      held = g.K.Sink.held c.give.new.out;
      faults = g.K.Sink.faults c.give.new.out;
      written = g.W.FileWriter.content c.give.new.writer;
      write_faults = g.W.FileWriter.faults c.give.new.writer;
    } in
    let cut = subst (λ (fs : List FixedFile). IsCut c.delivery_of.result fs old new c.in-Err-give.stop) c.as_slice-fixed.ensures.value c.in-Err-give.ensures.cut in
    Late files.fixed.items files.unread.items c.in-Ok.ensures.come (subst (λ (w : Delivery). IsCut w files.fixed.items old new c.in-Err-give.stop) c.delivery_of.ensures cut)
