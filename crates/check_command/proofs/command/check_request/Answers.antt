use Rattle.check_print.specs.check_words.declared.help.TheConstants.{HELP, VERSION}
use Rattle.check_command.proofs.Doing.{ended_err, ended_ok, has_checked, has_refused, has_stopped, has_unchosen}
use Rattle.check_command.proofs.command.check_request.Goals as goal

pub returns-clause-done : goal.returns-clause-done
returns-clause-done g c =
    let content = g.F.FileStore.content in
    let faults = g.F.FileStore.faults in
    let load = c.load_setup.ensures in
    ended_ok c.fails_on.result c.check-done.result _ _ _ c.ended_by.ensures
    (λ s h. has_checked c.args.request.now c.args.is_painted (content c.args.files.now) (content c.load_setup.new.files) (faults c.args.files.now) (faults c.load_setup.new.files) (faults c.check-done.new.files)
    (g.S.Source.left c.args.src.now) (g.S.Source.faults c.args.src.now) (g.S.Source.faults c.check-done.new.src) (g.K.Sink.held c.args.out.now) (g.K.Sink.held c.check-done.new.out) s
    c.in-Ok.setup c.in-Ok-chosen.choices c.linter_by-linter.result c.style_of.result c.fails_on.result c.in-Ok.ensures.loaded load.kept load.later c.in-Ok-chosen.ensures.chosen c.linter_by-linter.ensures
    c.style_of.ensures c.fails_on.ensures h)
    c.check-done.ensures.done

pub returns-clause-stopped : goal.returns-clause-stopped
returns-clause-stopped g c =
    let content = g.F.FileStore.content in
    let faults = g.F.FileStore.faults in
    let load = c.load_setup.ensures in
    ended_err c.fails_on.result c.check-done.result _ _ _ c.ended_by.ensures
    (λ s h. has_stopped c.args.request.now HELP.now VERSION.now c.args.is_painted (content c.args.files.now) (content c.load_setup.new.files) (faults c.args.files.now) (faults c.load_setup.new.files)
    (faults c.check-done.new.files) (g.S.Source.left c.args.src.now) (g.S.Source.faults c.args.src.now) (g.S.Source.faults c.check-done.new.src) (g.K.Sink.held c.args.out.now) (g.K.Sink.held c.check-done.new.out)
    (g.K.Sink.faults c.args.out.now) (g.K.Sink.faults c.check-done.new.out) s
    c.in-Ok.setup c.in-Ok-chosen.choices c.linter_by-linter.result c.style_of.result c.in-Ok.ensures.loaded load.kept load.later c.in-Ok-chosen.ensures.chosen c.linter_by-linter.ensures c.style_of.ensures h)
    c.check-done.ensures.stopped
