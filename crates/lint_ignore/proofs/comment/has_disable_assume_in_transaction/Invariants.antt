use Rattle.std.proofs.Common.{◌≡◌, take, false}
use Rattle.std.specs.List.{list_any}
use Rattle.lint_ignore.specs.Comment.{is_disable_comment}
use Rattle.lint_ignore.proofs.comment.has_disable_assume_in_transaction.Given as goal

-- no comment so far is one
abbrev pub invariant-loop-i : goal.invariant-loop-i
invariant-loop-i l = list_any (is_disable_comment l.p.text) (take l.i l.p.toks) ≡ false
