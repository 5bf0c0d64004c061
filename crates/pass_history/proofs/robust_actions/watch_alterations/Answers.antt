use Rattle.std.proofs.Common.{◌∙◌, sym, ◌++◌, subst}
use Rattle.lint_pass.specs.lint_node.Altered.{altered_all}
use Rattle.lint_pass.proofs.of_lint_transaction.SpanLaws.{on_ok}
use Rattle.pass_history.specs.Dropped.{IsDropping}
use Rattle.pass_history.proofs.robust_actions.watch_alterations.Goals as goal

pub returns-in-Some-clause-knows : goal.returns-in-Some-clause-knows
returns-in-Some-clause-knows c =
    on_ok c.watch_actions.result _ _
    (λ knows es h.
    subst (λ ys. IsDropping c.args.p.now (es ++ ys) c.watch_actions.new.dropped)
    (λ i. altered_all ((sym c.in-Some.is ∙ c.altered_path.ensures) i) (c.table_actions.ensures i))
    (knows es h))
    c.watch_actions.ensures.knows
