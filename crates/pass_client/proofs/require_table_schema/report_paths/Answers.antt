use Rattle.lint_pass.specs.lint_base.GrownLaws.{at_err}
use Rattle.lint_pass.proofs.PartLaws.{prefix_refused}
use Rattle.lint_pass.specs.Those.{that}
use Rattle.pass_client.specs.RequireTableSchema as spec
use Rattle.pass_client.specs.RequireTableSchema.{is_bare}
use Rattle.pass_client.proofs.require_table_schema.report_paths.Goals as goal

pub returns-in_err-report_path-clause-err : goal.returns-in_err-report_path-clause-err
returns-in_err-report_path-clause-err c =
    at_err _
    (prefix_refused (that is_bare (spec.report c.args.p.now)) c.args.paths.now c.loop-path.path-index c.args.out.now c.loop-path.out c.report_path.new.out
    c.loop-path.invariant c.in_err-report_path.ensures.err)
