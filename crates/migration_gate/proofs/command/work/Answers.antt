use Rattle.std.proofs.Common.{◌≡◌, Some}
use Rattle.migration_gate.specs.Config.{linter_of}
use Rattle.migration_gate.proofs.Judged.{judged_for}
use Rattle.migration_gate.proofs.command.work.Goals as goal

pub returns-in-Ok-clause-judged : goal.returns-in-Ok-clause-judged
returns-in-Ok-clause-judged g c =
    let field = c.in-Ok-Some.field-0-is in
    let linter = c.in-Ok-Some.linter-is in
    let value = c.in-Ok-Some.ensures.value in
    let named : Some c.in-Ok-Some.linter ≡ linter_of c.args.words.now = cc in
    judged_for _ c.args.words.now c.in-Ok-Some.linter (g.S.Source.left c.args.src.now) c.in-Ok.input.items c.as_slice.result.now
    (g.K.Sink.held c.args.out.now) (g.K.Sink.held c.judge_input.new.out) named c.in-Ok.ensures.whole c.in-Ok.ensures.short c.as_slice.ensures.value
    c.judge_input.ensures.judged
