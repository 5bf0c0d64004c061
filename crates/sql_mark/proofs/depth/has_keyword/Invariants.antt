use Rattle.std.proofs.Common.{◌≡◌, ◌≤◌, ◌+◌, length}
use Rattle.sql_token.specs.Depth.{has_keyword_from}
use Rattle.sql_mark.proofs.depth.has_keyword.Given as goal

abbrev pub invariant-loop-left : goal.invariant-loop-left
invariant-loop-left l = record {
  opened : l.opened + length l.left ≤ length l.terminals;
  closed : l.closed + length l.left ≤ length l.terminals;
  same : has_keyword_from l.word l.opened l.closed l.left ≡ has_keyword_from l.word 0 0 l.terminals;
}

abbrev pub decreases-loop-left : goal.decreases-loop-left
decreases-loop-left l = length l.left
