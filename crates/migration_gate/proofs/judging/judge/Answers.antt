use Rattle.std.proofs.lemmas.Result.{IfOk-weaker}
use Rattle.migration_gate.proofs.Judgements.{told_of}
use Rattle.migration_gate.proofs.judging.judge.Goals as goal

pub returns-in-Ok-clause-told : goal.returns-in-Ok-clause-told
returns-in-Ok-clause-told c =
    IfOk-weaker c.judge_kept.result _ _
    (λ w h. told_of c.args.linter.now.rules c.args.linter.now.settings c.args.text.now c.in-Ok.p c.args.file
    c.args.works.now.items c.judge_kept.new.works.items w c.in-Ok.ensures.ok c.judge_kept.ensures.utf8 h)
    c.judge_kept.ensures.told
