use Rattle.std.proofs.Common.{◌∙◌, sym}
use Rattle.lint_pass.specs.Those.{that}
use Rattle.pass_data_type.proofs.TypeWalk.{no_types}
use Rattle.pass_data_type.proofs.type_rule.report_types.Goals as goal

pub returns-else-types_columns-clause-ok : goal.returns-else-types_columns-clause-ok
returns-else-types_columns-clause-ok g c =
    no_types (that (g.T.TypeRule.concerns c.args.rule.now c.args.p.now) (g.T.TypeRule.report_on c.args.rule.now c.args.p.now)) c.args.s.now c.args.out.now
    (sym c.types_columns.ensures ∙ c.if-types_columns.false)
