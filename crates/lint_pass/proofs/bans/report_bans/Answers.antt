use Rattle.std.proofs.Common.{◌∙◌, sym}
use Rattle.lint_pass.proofs.Concerns.{bans_kept}
use Rattle.lint_pass.proofs.bans.report_bans.Goals as goal

pub returns-else-rows_concern-clause-ok : goal.returns-else-rows_concern-clause-ok
returns-else-rows_concern-clause-ok c =
    bans_kept c.args.code c.args.rows.now c.args.p.now c.args.s.now c.args.out.now (sym c.rows_concern.ensures ∙ c.if-rows_concern.false)
