use Rattle.lint_pass.specs.lint_base.GrownLaws.{at_err}
use Rattle.lint_pass.proofs.PartLaws.{prefix_refused}
use Rattle.lint_pass.specs.Those.{that}
use Rattle.pass_history.specs.AddingNotNullField.{report, sets_not_null}
use Rattle.pass_history.proofs.adding_not_null_field.report_pieces.Goals as goal

pub returns-in_err-report_piece-clause-err : goal.returns-in_err-report_piece-clause-err
returns-in_err-report_piece-clause-err c =
    at_err _
    (prefix_refused (that sets_not_null (report c.args.p.now)) c.args.pieces.now c.loop-piece.piece-index c.args.out.now c.loop-piece.out c.report_piece.new.out
    c.loop-piece.invariant c.in_err-report_piece.ensures.err)
