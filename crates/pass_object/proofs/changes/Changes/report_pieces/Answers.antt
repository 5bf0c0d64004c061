use Rattle.std.specs.Prelude.{None, false}
use Rattle.lint_base.specs.GrownLaws.{at_err}
use Rattle.lint_pass.specs.sql_tree.declared.kinds.PieceKind.TheVariants.{NotEnforced}
use Rattle.lint_pass.proofs.PartLaws.{prefix_refused_in}
use Rattle.pass_object.specs.Changes.{at_piece, by}
use Rattle.pass_object.proofs.changes.Changes.report_pieces.Goals as goal

pub returns-in_err-report_piece-clause-err : goal.returns-in_err-report_piece-clause-err
returns-in_err-report_piece-clause-err c =
    at_err _
    (prefix_refused_in (at_piece (by c.args.self.now) c.args.p.now c.args.is_all) c.args.pieces.now c.loop-q.q-index (record { kind = NotEnforced; first = 0; last = 0; ty = None; always = false }) c.args.out.now c.loop-q.out c.report_piece.new.out
    c.loop-q-test.true c.loop-q.invariant c.in_err-report_piece.ensures.err)
