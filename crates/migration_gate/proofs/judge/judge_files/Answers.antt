use Rattle.migration_gate.specs.Verdict.{names_of, texts_of}
use Rattle.migration_gate.proofs.Judged.{shown_as}
use Rattle.migration_gate.proofs.judge.judge_files.Goals as goal

pub returns-in-Ok-clause-shown : goal.returns-in-Ok-clause-shown
returns-in-Ok-clause-shown g c =
    shown_as c.write_verdict.result c.args.linter.now (texts_of c.args.files.now) (names_of c.args.files.now) c.in-Ok.verdict _ _ c.in-Ok.ensures.verdict c.in-Ok.ensures.clean c.write_verdict.ensures.wrote
