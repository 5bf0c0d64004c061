use Rattle.squawk_cli.specs.Modes.{given_text, groups_to_make}
use Rattle.squawk_cli.proofs.CleanOfRun.{clean_for}
use Rattle.squawk_cli.proofs.Complete.{is_done}
use Rattle.squawk_cli.proofs.HeadlineOfRun.{headline_for}
use Rattle.squawk_cli.proofs.MadeRuns.{made_ends}
use Rattle.squawk_cli.proofs.command.run.Goals as goal

pub returns-clause-complete : goal.returns-clause-complete
returns-clause-complete g c =
    let e = c.work-status.ensures in
    λ taken ns nk. is_done c.work-status.result c.args.words.now (groups_to_make c.args.words.now) _ _ _ _ _ _ e.words e.read e.input e.source e.sink taken ns nk

pub returns-clause-headline : goal.returns-clause-headline
returns-clause-headline g c =
    let e = c.work-status.ensures in
    headline_for c.headline.ensures c.work-status.result c.args.words.now (given_text c.args.words.now (g.S.Source.left c.args.src.now)) (g.K.Sink.held c.args.out.now) (g.K.Sink.held c.work-status.new.out) e.input e.written

pub returns-clause-clean : goal.returns-clause-clean
returns-clause-clean g c =
    let e = c.work-status.ensures in
    clean_for c.clean_answers.ensures c.work-status.result c.args.words.now (given_text c.args.words.now (g.S.Source.left c.args.src.now)) (g.K.Sink.held c.args.out.now) (g.K.Sink.held c.work-status.new.out) e.input e.written

pub returns-clause-made : goal.returns-clause-made
returns-clause-made g c =
    let e = c.work-status.ensures in
    λ asked. made_ends c.made_is_valid.ensures c.work-status.result c.args.words.now _ _ e.words e.read e.input asked
