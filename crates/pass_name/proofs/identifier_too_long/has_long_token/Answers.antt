use Rattle.std.proofs.Common.{◌∙◌, sym, ◌+◌, arith}
use Rattle.std.specs.List.{list_any}
use Rattle.pass_name.specs.IdentifierTooLong.{is_long_at, token_numbers}
use Rattle.pass_name.proofs.LongTokens.{any_found, any_next, any_none}
use Rattle.pass_name.proofs.identifier_too_long.has_long_token.Goals as goal

pub returns-then-is_long_at : goal.returns-then-is_long_at
returns-then-is_long_at c =
    any_found (is_long_at c.args.p.now) c.loop-number.number (c.args.s.now.last + 1) (list_any (is_long_at c.args.p.now) (token_numbers c.args.s.now))
    c.loop-number-test.true (sym c.is_long_at.ensures ∙ c.if-is_long_at.true) c.loop-number.invariant

pub loop-number-preserved : goal.loop-number-preserved
loop-number-preserved c =
    any_next (is_long_at c.args.p.now) c.loop-number.number (c.args.s.now.last + 1) (list_any (is_long_at c.args.p.now) (token_numbers c.args.s.now))
    c.loop-number-test.true (sym c.is_long_at.ensures ∙ c.if-is_long_at.false) c.loop-number.invariant

pub returns : goal.returns
returns c =
    any_none (is_long_at c.args.p.now) c.loop-number.number (c.args.s.now.last + 1) (list_any (is_long_at c.args.p.now) (token_numbers c.args.s.now))
    (omega arith) c.loop-number.invariant
