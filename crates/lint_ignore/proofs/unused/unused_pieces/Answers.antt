use Rattle.std.proofs.Common.{arith}
use Rattle.std.proofs.lemmas.Grind.{common_steps}
use Rattle.std.proofs.Common.{◌≡◌, ◌∙◌}
use Rattle.lint_base.specs.Grown.{GrownBy}
use Rattle.lint_base.specs.GrownLaws.{at_err}
use Rattle.lint_ignore.specs.Unused.{unused_among, unused_names}
use Rattle.lint_ignore.proofs.Places.{found_known}
use Rattle.lint_ignore.proofs.UnusedNames.{one_reported, none_reported, among_names, prefix_reported}
use Rattle.lint_ignore.proofs.unused.unused_pieces.Goals as goal
use Rattle.lint_ignore.proofs.unused.unused_pieces.Goals.{then-is_unused+in_ok-report_unused, else-is_unused}

pub is_unused-requires : goal.is_unused-requires
is_unused-requires c =
    (found_known c.args.p.now c.text-text.result.now c.args.ignores.now c.args.pieces.now c.loop-piece.piece-index c.piece-item.result c.text-text.ensures.tree c.text-text.ensures.value c.text-text.utf8 c.requires.ignores c.requires.pieces c.loop-piece-test.true c.piece-item.is).ignore

pub report_unused-requires-clause-start : goal.report_unused-requires-clause-start
report_unused-requires-clause-start c =
    (found_known c.args.p.now c.text-text.result.now c.args.ignores.now c.args.pieces.now c.loop-piece.piece-index c.piece-item.result c.text-text.ensures.tree c.text-text.ensures.value c.text-text.utf8 c.requires.ignores c.requires.pieces c.loop-piece-test.true c.piece-item.is).place.start

pub report_unused-requires-clause-end : goal.report_unused-requires-clause-end
report_unused-requires-clause-end c =
    (found_known c.args.p.now c.text-text.result.now c.args.ignores.now c.args.pieces.now c.loop-piece.piece-index c.piece-item.result c.text-text.ensures.tree c.text-text.ensures.value c.text-text.utf8 c.requires.ignores c.requires.pieces c.loop-piece-test.true c.piece-item.is).place.end

pub returns-in_err-report_unused-clause-err : goal.returns-in_err-report_unused-clause-err
returns-in_err-report_unused-clause-err c =
    let names : unused_among c.text-text.result.now c.args.ignores.now c.args.all.now c.remove.new.self c.args.pieces.now ≡ unused_names c.args.p.now c.args.all.now c.args.rules.now =
    among_names c.args.p.now c.text-text.result.now c.args.ignores.now c.args.all.now c.remove.new.self c.args.rules.now c.args.pieces.now c.text-text.ensures.value c.requires.ignores c.requires.pieces c.remove.ensures.value in
    let front : GrownBy c.args.out.now c.report_unused.new.out (unused_names c.args.p.now c.args.all.now c.args.rules.now) =
    prefix_reported c.text-text.result.now c.args.ignores.now c.args.all.now c.remove.new.self c.args.pieces.now c.loop-piece.piece-index c.args.out.now c.loop-piece.out c.report_unused.new.out _ c.loop-piece.invariant c.in_err-report_unused.ensures.err names in
    at_err c.from_residual-in_err-report_unused.result front

pub loop-piece-preserved : goal.loop-piece-preserved
loop-piece-preserved c =
    elim c.if-is_unused.branch [
      | then-is_unused+in_ok-report_unused w ↦ one_reported c.text-text.result.now c.args.ignores.now c.args.all.now c.remove.new.self c.args.pieces.now c.loop-piece.piece-index c.piece-item.result c.is_unused.result c.args.out.now c.loop-piece.out c.if-is_unused.out c.loop-piece-test.true c.piece-item.is
          (c.is_unused.ensures c.text-text.result.now c.args.all.now c.in_ok-index.ensures) w.if-is_unused.true c.loop-piece.invariant (w.out-is ∙ w.in_ok-report_unused.ensures.ok)
      | else-is_unused w ↦ none_reported c.text-text.result.now c.args.ignores.now c.args.all.now c.remove.new.self c.args.pieces.now c.loop-piece.piece-index c.piece-item.result c.is_unused.result c.args.out.now c.loop-piece.out c.if-is_unused.out c.loop-piece-test.true c.piece-item.is
          (c.is_unused.ensures c.text-text.result.now c.args.all.now c.in_ok-index.ensures) w.if-is_unused.false c.loop-piece.invariant w.out-is
    ]

pub returns-clause-ok : goal.returns-clause-ok
returns-clause-ok c = grind (arith, common_steps)
