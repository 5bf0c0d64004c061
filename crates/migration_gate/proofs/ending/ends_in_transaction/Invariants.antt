use Rattle.std.proofs.Common.{◌≡◌}
use Rattle.squawk_linter.specs.lint_transaction.Transaction.{is_open}
use Rattle.migration_gate.proofs.ending.ends_in_transaction.Given as goal

abbrev pub invariant-loop-i : goal.invariant-loop-i
invariant-loop-i l = l.open ≡ is_open l.assumed l.file l.i
