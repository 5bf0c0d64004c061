use Rattle.std.proofs.Common.{◌-◌, ◌≤◌, length}
use Rattle.sql_token.specs.Token.{Leads}
use Rattle.sql_lex.proofs.lexer.tokens.Given as goal

abbrev pub invariant-loop-at : goal.invariant-loop-at
invariant-loop-at l = record {
  within : l.at ≤ length l.text;
  lead : Leads l.text 0 l.toks.items l.at;
}

abbrev pub decreases-loop-at : goal.decreases-loop-at
decreases-loop-at l = length l.text - l.at
