use Rattle.std.proofs.Common.{◌+◌, ◌-◌, ◌≤◌, ◌<◌, length, vec_len, vec_capacity}
use Rattle.sql_token.specs.Token.{Leads}
use Rattle.sql_lex.proofs.lexer.push_plain.Given as goal

abbrev pub invariant-loop-at : goal.invariant-loop-at
invariant-loop-at l = record {
  begun : l.from ≤ l.at;
  within : l.at ≤ length l.text;
  room : l.at < l.room_end → vec_len l.toks + l.room_end ≤ vec_capacity l.toks + l.at;
  lead : Leads l.text 0 l.toks.items l.at;
}

abbrev pub decreases-loop-at : goal.decreases-loop-at
decreases-loop-at l = length l.text - l.at
