use Rattle.std.proofs.Common.{◌+◌, arith, ◌∷◌, sym, ap, ◌∙◌}
use Rattle.sql_token.specs.Depth.{statements_from}
use Rattle.sql_token.specs.Terminal.{is_significant}
use Rattle.sql_lex.specs.Cursor.{onto_all}
use Rattle.sql_lex.proofs.Walk.{lies_at, after_some, after_blank, goes_over, no_mark, stops_at, terminals_after}
use Rattle.sql_lex.proofs.statements.push_words.Goals as goal

pub word_terminal-requires-clause-within : goal.word_terminal-requires-clause-within
word_terminal-requires-clause-within c = lies_at _ c.args.toks.now c.loop-number.number _ c.requires.lie c.loop-number-test.true

pub loop-number-preserved-then-is_word : goal.loop-number-preserved-then-is_word
loop-number-preserved-then-is_word c =
    let word = c.is_word.ensures.word c.if-is_word.true in
    let begins = after_some c.args.text.now c.args.toks.now c.loop-number.number _ c.loop-number-test.true (ap is_significant word) ∙ ap (λ t. t ∷ terminals_after c.args.text.now c.args.toks.now (c.loop-number.number + 1)) (sym c.word_terminal.ensures) in
    record {
      begun = omega arith;
      within = omega arith;
      same = λ o k. rw c.in_ok-push.ensures.items (goes_over c.loop-number.statement.items o k c.word_terminal.result _ _ _ begins (no_mark _ _ _ _ c.word_terminal.ensures (λ p. cc (word))) (c.loop-number.invariant.same o k));
    }

pub loop-number-preserved : goal.loop-number-preserved
loop-number-preserved c = record {
  begun = omega arith;
  within = omega arith;
  same = λ o k. ap (λ ts. onto_all c.loop-number.statement.items (statements_from o k ts)) (sym (after_blank c.args.text.now c.args.toks.now c.loop-number.number _ c.loop-number-test.true (sym c.is_significant.ensures ∙ c.if-is_significant.false))) ∙ c.loop-number.invariant.same o k;
}

pub returns-then-is_significant : goal.returns-then-is_significant
returns-then-is_significant c = record {
  begun = c.loop-number.invariant.begun;
  within = c.loop-number.invariant.within;
  same = c.loop-number.invariant.same;
  stops = stops_at c.args.toks.now c.loop-number.number _ (sym c.is_significant.ensures ∙ c.if-is_significant.true) (c.is_word.ensures.other c.if-is_word.false);
}

pub returns : goal.returns
returns c = record {
  begun = c.loop-number.invariant.begun;
  within = c.loop-number.invariant.within;
  same = c.loop-number.invariant.same;
  stops = λ k h. absurd (omega arith);
}
