use Rattle.std.proofs.Common.{◌≡◌}
use Rattle.lint_transaction.specs.Earlier.{concat_below}
use Rattle.lint_transaction.specs.Transaction.{stmt_at}
use Rattle.hazard_find.specs.Guards.{look_of}
use Rattle.hazard_find.proofs.guards.find_looks.Given as goal

-- the looks so far were added
abbrev pub invariant-loop-i : goal.invariant-loop-i
invariant-loop-i l = l.list.items ≡ concat_below (λ i. look_of l.p i (stmt_at l.p i)) l.i
