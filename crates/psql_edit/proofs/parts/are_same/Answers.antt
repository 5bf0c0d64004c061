use Rattle.std.proofs.Common.{arith, refl, sym}
use Rattle.std.proofs.lemmas.Bool.{true≢false}
use Rattle.psql_edit.specs.Exchange.{piece}
use Rattle.psql_edit.proofs.Sameness.{all_same, more_same, one_same}
use Rattle.psql_edit.proofs.parts.are_same.Goals as goal

pub returns-then-not-is_same : goal.returns-then-not-is_same
returns-then-not-is_same c =
    let i = c.loop-i.i in (
      λ e. absurd (true≢false (sym e)),
      λ all. c.if-not-is_same.ensures.1 (one_same (piece c.args.new.now) (piece c.args.old.now) c.args.others.now c.args.parts.now i _ (omega (arith, c.if-others-parts.false, c.loop-i-test.true)) c.loop-i-test.true all),
    )

pub loop-i-preserved : goal.loop-i-preserved
loop-i-preserved c =
    let i = c.loop-i.i in
    more_same (piece c.args.new.now) (piece c.args.old.now) c.args.others.now c.args.parts.now i _ (omega (arith, c.if-others-parts.false, c.loop-i-test.true)) c.loop-i-test.true c.loop-i.invariant (c.if-not-is_same.ensures.0 refl)

pub returns : goal.returns
returns c = (
  λ e. all_same (piece c.args.new.now) (piece c.args.old.now) c.args.others.now c.args.parts.now c.loop-i.i (omega arith) (omega arith) c.loop-i.invariant,
  λ all. refl,
)
