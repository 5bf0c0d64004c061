use Rattle.std.proofs.Common.{◌≡◌, length}
use Rattle.sql_tree.specs.Path.{path_cuts}
use Rattle.lint_transaction.specs.NamesLeft.{names_left}
use Rattle.lint_transaction.specs.Transaction.{same_path}
use Rattle.lint_transaction.proofs.names.has_same_names.Given as goal

-- the names so far are the same, one by one
abbrev pub invariant-loop-number : goal.invariant-loop-number
invariant-loop-number l =
    same_path (names_left l.left) (names_left l.right) ≡ same_path (path_cuts l.p.text l.p.toks l.fn.a) (path_cuts l.p.text l.p.toks l.fn.b)

abbrev pub decreases-loop-number : goal.decreases-loop-number
decreases-loop-number l = length (names_left l.left)
