use Rattle.pass_name.specs.Members as spec
use Rattle.pass_name.proofs.ReportLaws.{given_next}
use Rattle.pass_name.proofs.lists.columns_of.Goals as goal

pub loop-e-preserved : goal.loop-e-preserved
loop-e-preserved c =
    given_next spec.column_of c.args.elems.now c.loop-e.e-index c.e-item.result c.loop-e.names.items c.push_column.new.names.items
    c.loop-e-test.true c.e-item.is c.loop-e.invariant c.in_ok-push_column.ensures
