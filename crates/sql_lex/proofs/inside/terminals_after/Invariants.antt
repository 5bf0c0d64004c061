use Rattle.std.proofs.Common.{◌≡◌, ◌≤◌, ◌-◌, ◌++◌, length}
use Rattle.sql_lex.specs.Inside.{terminals_after}
use Rattle.sql_lex.proofs.inside.terminals_after.Given as goal

abbrev pub invariant-loop-number : goal.invariant-loop-number
invariant-loop-number l = record {
  within : l.number ≤ length l.toks;
  same : l.found.items ++ terminals_after l.text l.toks l.number ≡ terminals_after l.text l.toks l.first;
}

abbrev pub decreases-loop-number : goal.decreases-loop-number
decreases-loop-number l = length l.toks - l.number
