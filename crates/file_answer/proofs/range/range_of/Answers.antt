use Rattle.std.proofs.Common.{List, ◌≤◌, ℕ, length, sym, subst}
use Rattle.file_answer.proofs.Ranges.{span_in}
use Rattle.file_answer.proofs.range.range_of.Goals as goal

pub ends_in_semicolon-requires : goal.ends_in_semicolon-requires
ends_in_semicolon-requires c =
    let r = c.span_range-range.result in
    let in_text = span_in c.args.text.now c.args.toks.now c.args.span.first c.args.span.last r c.utf8.text c.requires c.span_range-range.ensures in
    subst (λ (z : List ℕ). r.end ≤ length z) (sym c.as_bytes.ensures.value) in_text.end.0

pub cut_short-requires-clause-range : goal.cut_short-requires-clause-range
cut_short-requires-clause-range c =
    span_in c.args.text.now c.args.toks.now c.args.span.first c.args.span.last c.span_range-range.result c.utf8.text c.requires c.span_range-range.ensures

pub returns-else-ends_in_semicolon-clause-range : goal.returns-else-ends_in_semicolon-clause-range
returns-else-ends_in_semicolon-clause-range c =
    span_in c.args.text.now c.args.toks.now c.args.span.first c.args.span.last c.span_range-range.result c.utf8.text c.requires c.span_range-range.ensures
