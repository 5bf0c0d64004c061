use Rattle.std.proofs.Common.{Bool, subst, sym}
use Rattle.fix_asked.proofs.Doing.{fixed_for, nothing_same, stopped_for, unsettled_for}
use Rattle.fix_asked.specs.Command.{AnswersBy, HasFailedFor}
use Rattle.fix_asked.specs.declared.failure.Failure.{Failure}
use Rattle.fix_run.specs.Giving.{Sinks}
use Rattle.fix_run.specs.Inputs.{Devices}
use Rattle.fix_run.specs.Runs.{HasFixed, HasStopped}
use Rattle.config_file.specs.squawk_words.declared.choices.Choices.{Choices}
use Rattle.fix_asked.proofs.command.fix_request.Goals as goal

pub returns-in-Err-clause-failed : goal.returns-in-Err-clause-failed
returns-in-Err-clause-failed g c =
    let by : AnswersBy = λ (ch : Choices) (wide : Bool). g.M.Fixer.answers (g.M.Chosen.by ch wide) in
    let sinks : Sinks = record {
      held = g.K.Sink.held c.args.out.now;
      faults = g.K.Sink.faults c.args.out.now;
      written = g.W.FileWriter.content c.args.writer.now;
      write_faults = g.W.FileWriter.faults c.args.writer.now;
    } in
    let devices : Devices = record {
      content = g.F.FileStore.content c.args.files.now;
      files_before = g.F.FileStore.faults c.args.files.now;
      files_now = g.F.FileStore.faults c.settle.new.files;
      left = g.S.Source.left c.args.src.now;
      input_before = g.S.Source.faults c.args.src.now;
      input_now = g.S.Source.faults c.args.src.now;
    } in
    unsettled_for by c.args.request.now devices sinks sinks c.in-Err.failure c.in-Err.ensures.unsettled (nothing_same sinks)

pub returns-in-Ok-fix-clause-done : goal.returns-in-Ok-fix-clause-done
returns-in-Ok-fix-clause-done g c =
    let by : AnswersBy = λ (ch : Choices) (wide : Bool). g.M.Fixer.answers (g.M.Chosen.by ch wide) in
    let request = c.args.request.now in
    let settled = c.in-Ok.settled in
    let old : Sinks = record {
      held = g.K.Sink.held c.args.out.now;
      faults = g.K.Sink.faults c.args.out.now;
      written = g.W.FileWriter.content c.args.writer.now;
      write_faults = g.W.FileWriter.faults c.args.writer.now;
    } in
    let new : Sinks = record {
      held = g.K.Sink.held c.fix.new.out;
      faults = g.K.Sink.faults c.fix.new.out;
      written = g.W.FileWriter.content c.fix.new.writer;
      write_faults = g.W.FileWriter.faults c.fix.new.writer;
    } in
    let now = g.F.FileStore.content c.settle.new.files in
    let first = g.F.FileStore.faults c.settle.new.files in
    let last = g.F.FileStore.faults c.fix.new.files in
    let left = g.S.Source.left c.args.src.now in
    let input = g.S.Source.faults c.args.src.now in
    let input_now = g.S.Source.faults c.fix.new.src in
    let later_devices : Devices = record { content = now; files_before = first; files_now = last; left = left; input_before = input; input_now = input_now } in
    let done = c.in-Ok-fix.done in
    fixed_for by (g.F.FileStore.content c.args.files.now) now (g.F.FileStore.faults c.args.files.now) first last left input input_now c.settle.ensures.kept c.settle.ensures.later
    request old new settled c.in-Ok.ensures.settled done.status done.lines.items
    (subst (λ m. HasFixed (g.M.Fixer.answers m) settled.config.excluded_paths request later_devices old new done.status done.lines.items) c.by_choices-fixer.ensures c.in-Ok-fix.ensures.done)

pub returns-clause-failed : goal.returns-clause-failed
returns-clause-failed g c =
    let by : AnswersBy = λ (ch : Choices) (wide : Bool). g.M.Fixer.answers (g.M.Chosen.by ch wide) in
    let request = c.args.request.now in
    let settled = c.in-Ok.settled in
    let old : Sinks = record {
      held = g.K.Sink.held c.args.out.now;
      faults = g.K.Sink.faults c.args.out.now;
      written = g.W.FileWriter.content c.args.writer.now;
      write_faults = g.W.FileWriter.faults c.args.writer.now;
    } in
    let new : Sinks = record {
      held = g.K.Sink.held c.fix.new.out;
      faults = g.K.Sink.faults c.fix.new.out;
      written = g.W.FileWriter.content c.fix.new.writer;
      write_faults = g.W.FileWriter.faults c.fix.new.writer;
    } in
    let now = g.F.FileStore.content c.settle.new.files in
    let first = g.F.FileStore.faults c.settle.new.files in
    let last = g.F.FileStore.faults c.fix.new.files in
    let left = g.S.Source.left c.args.src.now in
    let input = g.S.Source.faults c.args.src.now in
    let input_now = g.S.Source.faults c.fix.new.src in
    let later_devices : Devices = record { content = now; files_before = first; files_now = last; left = left; input_before = input; input_now = input_now } in
    let devices : Devices = record {
      content = g.F.FileStore.content c.args.files.now;
      files_before = g.F.FileStore.faults c.args.files.now;
      files_now = last;
      left = left;
      input_before = input;
      input_now = input_now;
    } in
    subst (λ (failure : Failure). HasFailedFor by request devices old new failure) (sym c.stopped.ensures)
    (stopped_for by (g.F.FileStore.content c.args.files.now) now (g.F.FileStore.faults c.args.files.now) first last left input input_now c.settle.ensures.kept c.settle.ensures.later
    request old new settled c.in-Ok.ensures.settled c.in-Err-fix.stop
    (subst (λ m. HasStopped (g.M.Fixer.answers m) settled.config.excluded_paths request later_devices old new c.in-Err-fix.stop) c.by_choices-fixer.ensures c.in-Err-fix.ensures.stopped))
