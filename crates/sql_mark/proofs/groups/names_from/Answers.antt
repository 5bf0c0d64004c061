use Rattle.std.proofs.Common.{arith, ◌∙◌, sym}
use Rattle.sql_mark.proofs.Names.{names-step}
use Rattle.sql_mark.proofs.groups.names_from.Goals as goal

pub loop-rest-preserved : goal.loop-rest-preserved
loop-rest-preserved c =
    names-step c.loop-rest.last c.loop-rest.rest.now _ (omega arith)
    (sym c.is_dot.ensures ∙ c.if-not-is_dot.false) (sym c.is_name.ensures ∙ c.if-not-is_name.false)
    ∙ c.loop-rest.invariant
