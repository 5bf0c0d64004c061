use Rattle.std.proofs.Common.{arith}
use Rattle.sql_token.specs.Terminal.{is_closer, is_opener, is_semicolon}
use Rattle.sql_lex.proofs.statements.count_brackets.Goals as goal

pub returns-in-Semicolon-clause-ends : goal.returns-in-Semicolon-clause-ends
unfolding is_semicolon is_opener is_closer
returns-in-Semicolon-clause-ends c = grind arith
