use Rattle.std.proofs.Common.{◌∙◌, sym, subst, ℕ}
use Rattle.std.specs.Str.{IsCharBoundary}
use Rattle.pass_session.proofs.SourceLaws.{source_place}
use Rattle.pass_session.proofs.tokens.source_of.Goals as goal

pub range-requires-clause-start_boundary : goal.range-requires-clause-start_boundary
range-requires-clause-start_boundary c some =
    subst (λ (n : ℕ). IsCharBoundary c.text.result.now n) (sym (c.raw.ensures.value ∙ c.start.ensures.value))
    (source_place c.args.p.now c.text.result.now c.span_range-range.result c.args.span.first c.args.span.last c.text.ensures.tree c.text.ensures.value c.text.utf8 c.span_range-range.ensures).start

pub range-requires-clause-end_boundary : goal.range-requires-clause-end_boundary
range-requires-clause-end_boundary c =
    subst (λ (n : ℕ). IsCharBoundary c.text.result.now n) (sym (c.raw-2.ensures.value ∙ c.end.ensures.value))
    (source_place c.args.p.now c.text.result.now c.span_range-range.result c.args.span.first c.args.span.last c.text.ensures.tree c.text.ensures.value c.text.utf8 c.span_range-range.ensures).end
