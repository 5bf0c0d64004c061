use Rattle.std.proofs.Common.{◌≡◌, ℕ, ◌≤◌, ◌-◌, length}
use Rattle.sql_token.specs.Depth.{statements_from}
use Rattle.sql_lex.specs.Cursor.{onto_all}
use Rattle.sql_lex.proofs.Walk.{terminals_after}
use Rattle.sql_lex.proofs.statements.push_words.Given as goal

abbrev pub invariant-loop-number : goal.invariant-loop-number
invariant-loop-number l = record {
  begun : l.first ≤ l.number;
  within : l.number ≤ length l.toks;
  same : (o c : ℕ) → onto_all l.statement.items (statements_from o c (terminals_after l.text l.toks l.number)) ≡ onto_all l.fn.statement.items (statements_from o c (terminals_after l.text l.toks l.first));
}

abbrev pub decreases-loop-number : goal.decreases-loop-number
decreases-loop-number l = length l.toks - l.number
