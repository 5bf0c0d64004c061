use Rattle.std.proofs.Common.{arith}
use Rattle.std.proofs.lemmas.Grind.{common_steps}
use Rattle.sql_name.specs.Name.{after_quote, unquoted}
use Rattle.sql_name.specs.FullBytes.{full_from}
use Rattle.sql_name.proofs.full_bytes.FullBytesIterator.next.Goals as goal

pub returns-in_err-second-clause-steps : goal.returns-in_err-second-clause-steps
unfolding unquoted after_quote full_from
returns-in_err-second-clause-steps c = grind (arith, common_steps)

pub returns-then-byte-eq34-clause-goes : goal.returns-then-byte-eq34-clause-goes
unfolding unquoted after_quote full_from
returns-then-byte-eq34-clause-goes c = grind arith

pub returns-then-byte-eq34-clause-steps : goal.returns-then-byte-eq34-clause-steps
unfolding unquoted after_quote full_from
returns-then-byte-eq34-clause-steps c = grind arith

pub returns-then-second-ne34-clause-steps : goal.returns-then-second-ne34-clause-steps
unfolding unquoted after_quote full_from
returns-then-second-ne34-clause-steps c = grind arith

pub returns-then-self-2-clause-goes : goal.returns-then-self-2-clause-goes
unfolding unquoted after_quote full_from
returns-then-self-2-clause-goes c = grind arith

pub returns-then-self-2-clause-steps : goal.returns-then-self-2-clause-steps
unfolding unquoted after_quote full_from
returns-then-self-2-clause-steps c = grind arith
