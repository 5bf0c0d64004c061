use Rattle.std.proofs.Common.{◌+◌, ap}
use Rattle.source_file.proofs.Escaping.{escaped_end, escaped_pushed}
use Rattle.source_file.proofs.escaped.push_text.Goals as goal

pub text-preserved : goal.text-preserved
text-preserved c =
    escaped_pushed c.args.marks c.args.text.now c.text.to.items _ _ c.text.at _ c.byte_at-first.result c.byte_at-second.result c.byte_at-third.result
    c.text-test.true c.byte_at-first.ensures c.byte_at-second.ensures c.byte_at-third.ensures c.text.invariant c.in_ok-push_first.ensures
    (ap (λ n. c.text.at + (1 + n)) c.more_len.ensures.value)

pub returns : goal.returns
returns c = escaped_end c.args.marks c.args.text.now c.text.to.items _ c.text.at c.text-test.false c.text.invariant
