use Rattle.std.proofs.Common.{◌≡◌}
use Rattle.lint_transaction.specs.NamesLeft.{names_from}
use Rattle.lint_transaction.proofs.names.name_from.Given as goal

-- the tokens so far are no names
abbrev pub invariant-loop-i : goal.invariant-loop-i
invariant-loop-i l = names_from l.p l.fn.end l.i ≡ names_from l.p l.fn.end l.fn.next
