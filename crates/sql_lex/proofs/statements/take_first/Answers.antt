use Rattle.std.proofs.Common.{refl, ◌+◌, ◌<◌, length, arith, ◌∷◌, sym, ap, ◌∙◌}
use Rattle.sql_token.specs.declared.token.TokKind.TheVariants.{Blank}
use Rattle.sql_lex.proofs.Walk.{lies_at, after_some, after_all, goes_on, goes_over, no_mark, ends, runs_out, terminals_after}
use Rattle.sql_lex.proofs.statements.take_first.Goals as goal

pub returns-then-number-toks : goal.returns-then-number-toks
returns-then-number-toks c =
    let over = c.in_ok-number.ensures in
    record {
      within = over.within;
      step = runs_out c.push_words.new.statement.items _ c.marks.opened c.marks.closed _ (after_all c.args.text.now c.args.toks.now c.in_ok-number.number (omega arith)) (over.same c.marks.opened c.marks.closed ∙ c.marks.invariant.same);
    }

pub other_terminal-requires-clause-within : goal.other_terminal-requires-clause-within
other_terminal-requires-clause-within c = lies_at _ c.args.toks.now c.in_ok-number.number _ c.requires.walk.lie (omega arith)

pub marks-preserved-then-not-is_punct : goal.marks-preserved-then-not-is_punct
marks-preserved-then-not-is_punct c =
    let over = c.in_ok-number.ensures in
    let less : c.in_ok-number.number < length c.args.toks.now = omega arith in
    let begins = after_some c.args.text.now c.args.toks.now c.in_ok-number.number _ less (over.stops (record { kind = Blank; start = 0; end = 0 }) less).0 ∙ ap (λ t. t ∷ terminals_after c.args.text.now c.args.toks.now (c.in_ok-number.number + 1)) (sym c.other_terminal.ensures) in
    record {
      within = omega arith;
      opened = omega (arith, over.begun);
      closed = omega (arith, over.begun);
      same = rw c.in_ok-push.ensures.items (goes_over c.push_words.new.statement.items c.marks.opened c.marks.closed c.other_terminal.result _ _ _ begins (no_mark _ _ _ _ c.other_terminal.ensures (c.if-not-is_punct.ensures.other refl)) (over.same c.marks.opened c.marks.closed ∙ c.marks.invariant.same));
    }

pub punct_terminal-terminal-requires-clause-within : goal.punct_terminal-terminal-requires-clause-within
punct_terminal-terminal-requires-clause-within c = lies_at _ c.args.toks.now c.in_ok-number.number _ c.requires.walk.lie (omega arith)

pub returns-in_default : goal.returns-in_default
returns-in_default c =
    let over = c.in_ok-number.ensures in
    let less : c.in_ok-number.number < length c.args.toks.now = omega arith in
    let begins = after_some c.args.text.now c.args.toks.now c.in_ok-number.number _ less (over.stops (record { kind = Blank; start = 0; end = 0 }) less).0 ∙ ap (λ t. t ∷ terminals_after c.args.text.now c.args.toks.now (c.in_ok-number.number + 1)) (sym c.punct_terminal-terminal.ensures) in
    record {
      within = omega arith;
      step = rw c.in_ok-push-2.ensures.items (ends c.push_words.new.statement.items c.marks.opened c.marks.closed c.punct_terminal-terminal.result _ _ _ begins c.in_default.ensures.ends (over.same c.marks.opened c.marks.closed ∙ c.marks.invariant.same));
    }

pub marks-preserved : goal.marks-preserved
marks-preserved c =
    let over = c.in_ok-number.ensures in
    let less : c.in_ok-number.number < length c.args.toks.now = omega arith in
    let begins = after_some c.args.text.now c.args.toks.now c.in_ok-number.number _ less (over.stops (record { kind = Blank; start = 0; end = 0 }) less).0 ∙ ap (λ t. t ∷ terminals_after c.args.text.now c.args.toks.now (c.in_ok-number.number + 1)) (sym c.punct_terminal-terminal.ensures) in
    record {
      within = omega arith;
      opened = omega (arith, over.begun, c.in-Some.ensures.small);
      closed = omega (arith, over.begun, c.in-Some.ensures.small);
      same = rw (c.in_ok-push-3.ensures.items, c.in-Some.ensures.counts.0, c.in-Some.ensures.counts.1) (goes_on c.push_words.new.statement.items c.marks.opened c.marks.closed c.punct_terminal-terminal.result _ _ _ begins c.in-Some.ensures.on (over.same c.marks.opened c.marks.closed ∙ c.marks.invariant.same));
    }
