use Rattle.std.proofs.Common.{◌≡◌, ◌≤◌, ◌-◌, length}
use Rattle.sql_token.specs.Depth.{statements_from}
use Rattle.sql_lex.specs.Cursor.{onto_all, statements_after}
use Rattle.sql_lex.proofs.Walk.{terminals_after}
use Rattle.sql_lex.proofs.statements.take_first.Given as goal

abbrev pub invariant-marks : goal.invariant-marks
invariant-marks l = record {
  within : l.number ≤ length l.toks;
  opened : l.opened ≤ l.number;
  closed : l.closed ≤ l.number;
  same : onto_all l.statement.items (statements_from l.opened l.closed (terminals_after l.text l.toks l.number)) ≡ statements_after l.text l.toks l.first;
}

abbrev pub decreases-marks : goal.decreases-marks
decreases-marks l = length l.toks - l.number
