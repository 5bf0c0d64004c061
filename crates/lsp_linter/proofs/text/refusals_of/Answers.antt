use Rattle.std.proofs.lemmas.Result.{IfOk-weaker}
use Rattle.lsp_linter.proofs.text.refusals_of.Goals as goal

pub returns : goal.returns
returns c =
    IfOk-weaker c.alone.result _ _
    (λ found h. record { error = c.args.error; cause = c.requires; report = c.in_ok-report.report; of_error = c.in_ok-report.ensures; are = h })
    c.alone.ensures
