use Rattle.std.proofs.Common.{subst}
use Rattle.std.proofs.lemmas.Result.{IfOk-weaker}
use Rattle.gate_report.specs.migration_gate.declared.verdict.Verdict.{Verdict}
use Rattle.gate_report.specs.migration_gate.Verdict.{shown, texts_of}
use Rattle.gate_report.specs.migration_gate.Laws.{AcceptsClean}
use Rattle.gate_report.specs.migration_gate.Verdicts.{IsVerdict}
use Rattle.gate_command.proofs.Judging.{outcome_of}
use Rattle.gate_command.proofs.judge.judged.Goals as goal

pub returns-in-Accepted-clause-outcome : goal.returns-in-Accepted-clause-outcome
returns-in-Accepted-clause-outcome c =
    let linter = c.args.linter.now in
    let ts = texts_of c.args.files.now in
    let is = c.in-Accepted.is in
    let pass = subst (λ (v : Verdict). IsVerdict linter.rules linter.settings ts (shown v)) is c.in_ok-verdict.ensures.verdict in
    let clean = subst (λ (v : Verdict). AcceptsClean linter.rules linter.settings ts v) is c.in_ok-verdict.ensures.clean in
    IfOk-weaker c.passed.result _ _
    (λ outcome h. outcome_of c.sessions_agree.ensures c.args.one_session linter ts c.in-Accepted.works.items outcome c.requires.apart pass clean h)
    c.passed.ensures
