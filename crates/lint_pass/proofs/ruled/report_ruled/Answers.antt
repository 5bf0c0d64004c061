use Rattle.std.proofs.Common.{◌∙◌, sym}
use Rattle.lint_pass.proofs.Concerns.{ruled_kept}
use Rattle.lint_pass.proofs.ruled.report_ruled.Goals as goal

pub returns-else-rows_concern-clause-ok : goal.returns-else-rows_concern-clause-ok
returns-else-rows_concern-clause-ok c =
    ruled_kept c.args.rows.now c.args.p.now c.args.rules.now c.args.s.now c.args.out.now (sym c.rows_concern.ensures ∙ c.if-rows_concern.false)
