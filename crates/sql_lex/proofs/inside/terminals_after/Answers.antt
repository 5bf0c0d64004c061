use Rattle.sql_lex.proofs.Walk.{lies_at}
use Rattle.sql_lex.proofs.inside.terminals_after.Goals as goal

pub terminal_of-requires : goal.terminal_of-requires
terminal_of-requires c = lies_at _ c.args.toks.now c.loop-number.number _ c.requires.lie c.loop-number-test.true
