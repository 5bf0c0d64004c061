use Rattle.std.proofs.Common.{◌≡◌, ◌++◌, take}
use Rattle.lint_pass.specs.Those.{those}
use Rattle.pass_history.specs.AddingNotNullField.{report, sets_not_null}
use Rattle.pass_history.proofs.adding_not_null_field.report_pieces.Given as goal

-- the pieces so far were reported
abbrev pub invariant-loop-piece : goal.invariant-loop-piece
invariant-loop-piece l = l.out ≡ l.fn.out ++ those sets_not_null (report l.p) (take l.piece-index l.pieces)
