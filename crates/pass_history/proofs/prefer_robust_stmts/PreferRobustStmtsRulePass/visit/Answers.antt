use Rattle.std.proofs.Common.{◌∙◌, sym, ap, Bool, ◌||◌, ◌&&◌, not, subst, ◌++◌}
use Rattle.lint_pass.specs.lint_node.Altered.{altered_by}
use Rattle.lint_pass.specs.lint_transaction.Transaction.{begins, ends, chains}
use Rattle.pass_history.specs.Dropped.{IsDropping}
use Rattle.pass_history.specs.History.{altered_below}
use Rattle.pass_history.proofs.RobustLaws.{robust_next}
use Rattle.pass_history.proofs.prefer_robust_stmts.PreferRobustStmtsRulePass.visit.Goals as goal

pub returns-clause-memory : goal.returns-clause-memory
returns-clause-memory c =
    let p = c.args.p.now in
    let s = c.args.s.now in
    let here = c.requires.memory in
    robust_next p c.args.set.now c.args.i s c.args.memory.now c.go_after.new.self c.requires.stmt here
    (c.go_after.ensures.open ∙ ap (λ (b : Bool). begins s || chains s || (b && not (ends s))) c.in_ok-report.ensures.open)
    (subst (λ map. IsDropping p (altered_below p c.args.i ++ altered_by s) map) (sym c.go_after.ensures.dropped) (c.in_ok-report.ensures.knows _ here.dropping))
    c.go_after.ensures.next
