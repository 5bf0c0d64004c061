use Rattle.std.proofs.Common.{◌∷◌, ◌∙◌, [], Some, None, ap, arith, sym}
use Rattle.std.specs.Prelude.{◌&&◌, ◌==◌, ◌+◌}
use Rattle.std.proofs.lemmas.Bool.{and_parts}
use Rattle.sql_lex.proofs.SignLaws.{signs_after}
use Rattle.psql_text.specs.Marks.{begun, ended, ends_body, is_backslash, is_end, is_outside}
use Rattle.psql_text.specs.Psql.{mark_at}
use Rattle.psql_text.specs.Psql.BodyFrom.{end as body_ends, backslash as body_stops, token as body_goes, ends as body_past, unclosed as body_open}
use Rattle.psql_text.specs.Reading.{block_of}
use Rattle.psql_text.specs.declared.mark.Mark.{Mark}
use Rattle.psql_text.proofs.Words.{end_whole}
use Rattle.psql_text.proofs.body.body_end.Goals as goal

pub loop-at-init : goal.loop-at-init
loop-at-init c = record {
  from = omega arith;
  opened = omega (arith, c.new-block.ensures.few);
  closed = omega (arith, c.new-block.ensures.few);
  begun = omega (arith, c.new-block.ensures.few);
  ended = omega (arith, c.new-block.ensures.few);
  signs = λ is. absurd (cc);
  goes = ([], c.new-block.ensures.value, λ to b. b);
}

pub returns-in-None-clause-body : goal.returns-in-None-clause-body
returns-in-None-clause-body c = let g = c.loop-at.invariant.goes in g.2 None (body_open c.args.text.now c.loop-at.at g.0 c.in-None.ensures.none)

pub returns-then-ends_at-clause-body : goal.returns-then-ends_at-clause-body
returns-then-ends_at-clause-body c =
    let g = c.loop-at.invariant.goes in
    let ends = ap (ends_body g.0) (sym c.mark_of-mark.ensures) ∙ sym (c.if-ends_at.ensures g.0 g.1) in
    g.2 (Some c.in-Some.end) (body_ends c.args.text.now c.loop-at.at g.0 c.in-Some.kind c.in-Some.end c.in-Some.ensures.found ends)

pub returns-then-ends_at-clause-whole : goal.returns-then-ends_at-clause-whole
returns-then-ends_at-clause-whole c = λ utf8.
    let g = c.loop-at.invariant.goes in
    let ms = g.0 in
    let m = mark_at c.args.text.now c.loop-at.at c.in-Some.kind c.in-Some.end in
    let ends = ap (ends_body ms) (sym c.mark_of-mark.ensures) ∙ sym (c.if-ends_at.ensures ms g.1) in
    let outer = (and_parts (is_end m && is_outside ms) (begun ms == ended ms) ends).0 in
    end_whole c.args.text.now c.loop-at.at c.in-Some.end c.in-Some.kind utf8 c.in-Some.ensures.found (and_parts (is_end m) (is_outside ms) outer).0

pub returns-then-is_backslash-clause-body : goal.returns-then-is_backslash-clause-body
returns-then-is_backslash-clause-body c =
    let g = c.loop-at.invariant.goes in
    let more = ap (ends_body g.0) (sym c.mark_of-mark.ensures) ∙ sym (c.if-ends_at.ensures g.0 g.1) in
    let stops = ap is_backslash (sym c.mark_of-mark.ensures) ∙ sym c.if-is_backslash.ensures in
    g.2 None (body_stops c.args.text.now c.loop-at.at g.0 c.in-Some.kind c.in-Some.end c.in-Some.ensures.found more stops)

pub loop-at-preserved : goal.loop-at-preserved
loop-at-preserved c =
    let t = c.args.text.now in
    let at = c.loop-at.at in
    let end = c.in-Some.end in
    let token = c.in-Some.ensures.found in
    let before = c.loop-at.invariant in
    let g = before.goes in
    let few = c.with-block.ensures.few in
    let same = c.mark_of-mark.ensures in
    let more = ap (ends_body g.0) (sym same) ∙ sym (c.if-ends_at.ensures g.0 g.1) in
    let on = ap is_backslash (sym same) ∙ sym c.if-is_backslash.ensures in
    record {
      from = omega (arith, before.from, token.before);
      opened = omega (arith, before.opened, token.before, few.0);
      closed = omega (arith, before.closed, token.before, few.1);
      begun = omega (arith, before.begun, token.before, few.2);
      ended = omega (arith, before.ended, token.before, few.3);
      signs = λ is. (omega (arith, token.before), signs_after t at end c.in-Some.kind (c.is_operator-is_after_operator.ensures is) token);
      goes = (
        mark_at t at c.in-Some.kind end ∷ g.0,
        c.with-block.ensures.value g.0 g.1 ∙ ap (λ (m : Mark). block_of (m ∷ g.0)) same,
        λ to b. g.2 to (body_goes t at g.0 c.in-Some.kind end to token more on b),
      );
    }

pub returns-clause-body : goal.returns-clause-body
returns-clause-body c = let g = c.loop-at.invariant.goes in g.2 None (body_past c.args.text.now c.loop-at.at g.0 c.loop-at-test.false)
