use Rattle.std.proofs.Common.{refl, ap, arith, vec_len, vec_capacity}
use Rattle.sql_token.proofs.TokenLaws.{leads_push}
use Rattle.sql_lex.proofs.lexer.push_plain.Goals.{then-is_blank+else-start-room_end, else-is_blank}
use Rattle.sql_lex.proofs.lexer.push_plain.Goals as goal

pub returns-then-start-room_end : goal.returns-then-start-room_end
returns-then-start-room_end c = (
  omega (arith, c.blank_end-start.ensures.within),
  omega (arith, c.blank_end-start.ensures.within),
  rw c.push_token.ensures.items (leads_push c.args.text.now 0 c.loop-at.at c.loop-at.toks.items _ c.loop-at.invariant.lead refl c.blank_end-start.ensures.found),
)

pub returns-in_default : goal.returns-in_default
returns-in_default c =
    elim c.if-is_blank.branch [
      | then-is_blank+else-start-room_end w ↦ (
        omega (arith, w.blank_end-start.ensures.within, w.start-is),
        omega (arith, w.blank_end-start.ensures.within, w.start-is),
        rw (w.toks-is, w.start-is, w.push_token.ensures.items) (leads_push c.args.text.now 0 c.loop-at.at c.loop-at.toks.items _ c.loop-at.invariant.lead refl w.blank_end-start.ensures.found),
      )
      | else-is_blank w ↦ (omega (arith, w.start-is), omega (arith, w.start-is), rw (w.toks-is, w.start-is) c.loop-at.invariant.lead)
    ]

pub loop-at-preserved : goal.loop-at-preserved
loop-at-preserved c =
    let items = c.push_token-in-loop-at.ensures.items in
    elim c.if-is_blank.branch [
      | then-is_blank+else-start-room_end w ↦ record {
        begun = omega (arith, c.in-Some.ensures.within, w.blank_end-start.ensures.within, w.start-is);
        within = omega (arith, c.in-Some.ensures.within);
        room = λ more. omega (arith, c.in-Some.ensures.within, c.push_token-in-loop-at.ensures.len, c.push_token-in-loop-at.ensures.capacity, ap vec_len w.toks-is, ap vec_capacity w.toks-is, w.push_token.ensures.len, w.push_token.ensures.capacity, w.blank_end-start.ensures.within, w.start-is);
        lead = rw items (leads_push c.args.text.now 0 c.if-is_blank.start c.if-is_blank.toks.items _ (rw (w.toks-is, w.start-is, w.push_token.ensures.items) (leads_push c.args.text.now 0 c.loop-at.at c.loop-at.toks.items _ c.loop-at.invariant.lead refl w.blank_end-start.ensures.found)) refl c.in-Some.ensures.found);
      }
      | else-is_blank w ↦ record {
        begun = omega (arith, c.in-Some.ensures.within, w.start-is);
        within = omega (arith, c.in-Some.ensures.within);
        room = λ more. omega (arith, c.in-Some.ensures.within, c.push_token-in-loop-at.ensures.len, c.push_token-in-loop-at.ensures.capacity, ap vec_len w.toks-is, ap vec_capacity w.toks-is, w.start-is);
        lead = rw items (leads_push c.args.text.now 0 c.if-is_blank.start c.if-is_blank.toks.items _ (rw (w.toks-is, w.start-is) c.loop-at.invariant.lead) refl c.in-Some.ensures.found);
      }
    ]
