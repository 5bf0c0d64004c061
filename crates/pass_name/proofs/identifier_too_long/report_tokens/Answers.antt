use Rattle.std.proofs.Common.{◌+◌, arith}
use Rattle.lint_pass.specs.Those.{that}
use Rattle.pass_name.specs.IdentifierTooLong as spec
use Rattle.pass_name.proofs.NameCuts.{number_next, numbers_done}
use Rattle.pass_name.proofs.identifier_too_long.report_tokens.Goals as goal

pub loop-number-preserved : goal.loop-number-preserved
loop-number-preserved c =
    number_next (that (spec.is_too_long c.args.p.now) (spec.report c.args.p.now)) c.loop-number.number (c.args.s.now.last + 1) c.loop-number.out _ c.report_token.new.out
    c.loop-number-test.true c.in_ok-report_token.ensures c.loop-number.invariant

pub returns : goal.returns
returns c =
    numbers_done (that (spec.is_too_long c.args.p.now) (spec.report c.args.p.now)) c.loop-number.number (c.args.s.now.last + 1) c.loop-number.out _
    (omega arith) c.loop-number.invariant
