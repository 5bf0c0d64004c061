use Rattle.std.proofs.Common.{subst, List, OnErr}
use Rattle.lint_base.specs.Grown.{GrownBy}
use Rattle.pass_object.specs.Changes.{Row, at_statement, by_rows}
use Rattle.pass_object.proofs.existing_object_compatibility.report_changes.Goals as goal

pub returns-clause-err : goal.returns-clause-err
returns-clause-err c =
    subst (λ (rows : List Row). OnErr c.report.result (GrownBy c.args.out.now c.report.new.out (at_statement (by_rows c.args.rules.now rows) c.args.p.now c.args.s.now))) c.rows_of.ensures
    c.report.ensures.err
