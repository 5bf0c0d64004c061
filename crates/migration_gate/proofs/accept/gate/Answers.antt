use Rattle.std.proofs.lemmas.Result.{IfOk-weaker}
use Rattle.migration_gate.specs.Verdict.{shown, texts_of}
use Rattle.migration_gate.proofs.Steps.{accepts_clean}
use Rattle.migration_gate.proofs.Verdicts.{one_verdict}
use Rattle.migration_gate.proofs.accept.gate.Goals as goal

pub returns-clause-exact : goal.returns-clause-exact
returns-clause-exact c = λ w is.
    IfOk-weaker c.decide.result _ _ (λ v h. one_verdict c.args.linter.now.rules c.args.linter.now.settings (texts_of c.args.files.now) (shown v) w h is) c.decide.ensures.verdict

pub returns-clause-clean : goal.returns-clause-clean
returns-clause-clean c =
    IfOk-weaker c.decide.result _ _
    (λ v h. accepts_clean c.clean_answers.ensures c.args.linter.now.rules c.args.linter.now.settings (texts_of c.args.files.now) v c.requires.rules h) c.decide.ensures.verdict
