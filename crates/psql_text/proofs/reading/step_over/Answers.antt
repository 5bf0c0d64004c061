use Rattle.std.proofs.Common.{ℕ, ap, sym, subst, arith, ◌∙◌}
use Rattle.psql_text.specs.Lines.{IsLineEnd}
use Rattle.psql_text.proofs.Steps.{token_goes, token_moves, last_goes, last_moves, data_goes, data_moves}
use Rattle.psql_text.specs.Reading.{begins_body_of}
use Rattle.psql_text.specs.declared.mark.Mark.{Mark}
use Rattle.psql_text.proofs.reading.step_over.Goals as goal

pub step_into-requires-clause-begins : goal.step_into-requires-clause-begins
step_into-requires-clause-begins c = record {
  kind = c.args.kind;
  end = c.args.end;
  token = c.requires.token;
  begins = ap (λ (x : Mark). begins_body_of c.args.reading.statement x) (sym c.mark_of-mark.ensures) ∙ sym c.if-begins_body_at.ensures;
}

pub returns-then-not-ends_copy_at-clause-goes : goal.returns-then-not-ends_copy_at-clause-goes
returns-then-not-ends_copy_at-clause-goes c = λ ms h.
    token_goes c.args.text.now c.args.reading c.args.kind c.args.end c.after.result c.mark_of-mark.result ms h c.requires.plain c.requires.token c.mark_of-mark.ensures (sym c.if-begins_body_at.ensures)
    (sym (c.if-not-ends_copy_at.ensures ms h)) (c.after.ensures.summary ms h)

pub returns-then-not-ends_copy_at-clause-moves : goal.returns-then-not-ends_copy_at-clause-moves
returns-then-not-ends_copy_at-clause-moves c =
    token_moves c.args.text.now c.args.reading c.args.kind c.args.end c.after.result c.is_operator-is_operator.result c.requires.place c.requires.token
    c.after.ensures.few.0 c.after.ensures.few.1 c.is_operator-is_operator.ensures

pub returns-then-feed-text-clause-goes : goal.returns-then-feed-text-clause-goes
returns-then-feed-text-clause-goes c = λ ms h.
    last_goes c.args.text.now c.args.reading c.args.kind c.args.end c.line_end-feed.result c.after.result c.mark_of-mark.result ms h c.requires.plain c.requires.token c.mark_of-mark.ensures
    (sym (c.if-not-ends_copy_at.ensures ms h)) (subst (λ (x : ℕ). IsLineEnd c.args.text.now x c.line_end-feed.result) c.max.ensures c.line_end-feed.ensures) (omega arith) (c.after.ensures.summary ms h)

pub returns-then-feed-text-clause-moves : goal.returns-then-feed-text-clause-moves
returns-then-feed-text-clause-moves c = (
  last_moves c.args.text.now c.args.reading c.args.kind c.args.end c.line_end-feed.result c.after.result c.requires.place c.requires.token
      (subst (λ (x : ℕ). IsLineEnd c.args.text.now x c.line_end-feed.result) c.max.ensures c.line_end-feed.ensures) c.after.ensures.few.0 c.after.ensures.few.1,
  λ is. absurd (cc),
)

pub returns-clause-goes : goal.returns-clause-goes
returns-clause-goes c = λ ms h.
    data_goes c.args.text.now c.args.reading c.args.kind c.args.end c.line_end-feed.result c.data_end-data_end.result c.after.result c.mark_of-mark.result ms h c.requires.plain c.requires.token c.mark_of-mark.ensures
    (sym (c.if-not-ends_copy_at.ensures ms h)) (subst (λ (x : ℕ). IsLineEnd c.args.text.now x c.line_end-feed.result) c.max.ensures c.line_end-feed.ensures) (omega arith) c.data_end-data_end.ensures (c.after.ensures.summary ms h)

pub returns-clause-moves : goal.returns-clause-moves
returns-clause-moves c =
    data_moves c.args.text.now c.args.reading c.args.kind c.args.end c.line_end-feed.result c.data_end-data_end.result c.after.result c.requires.place c.requires.token
    (subst (λ (x : ℕ). IsLineEnd c.args.text.now x c.line_end-feed.result) c.max.ensures c.line_end-feed.ensures) (omega arith) c.data_end-data_end.ensures c.after.ensures.few.0 c.after.ensures.few.1
