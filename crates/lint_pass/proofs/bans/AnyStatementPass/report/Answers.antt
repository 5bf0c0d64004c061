use Rattle.std.proofs.Common.{subst, List, OnErr}
use Rattle.lint_base.specs.declared.rule.Rule.{Rule}
use Rattle.lint_base.specs.Grown.{GrownBy}
use Rattle.lint_pass.specs.Bans.{BanRow, bans_on}
use Rattle.lint_pass.proofs.bans.AnyStatementPass.report.Goals as goal

pub returns-clause-err : goal.returns-clause-err
returns-clause-err g c =
    subst (λ (code : Rule). OnErr c.report_bans.result (GrownBy c.args.out.now c.report_bans.new.out (bans_on code (g.T.BanPass.rows c.args.self.now) c.args.p.now c.args.s.now))) c.code.ensures
    (subst (λ (rows : List BanRow). OnErr c.report_bans.result (GrownBy c.args.out.now c.report_bans.new.out (bans_on c.code.result rows c.args.p.now c.args.s.now))) c.rows.ensures c.report_bans.ensures.err)
