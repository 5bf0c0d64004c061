use Rattle.std.proofs.Common.{◌≡◌, ◌++◌, List, map, take}
use Rattle.lint_pass.specs.lint_node.Altered.{Altered, altered}
use Rattle.lint_pass.specs.lint_transaction.Events.{each_event}
use Rattle.pass_history.specs.Dropped.{IsDropping}
use Rattle.pass_history.specs.RobustActions.{report_on}
use Rattle.pass_history.proofs.robust_actions.watch_actions.Given as goal

-- the actions so far are known, and were reported on
abbrev pub invariant-loop-a : goal.invariant-loop-a
invariant-loop-a l = record {
  knows : (es : List Altered) → IsDropping l.p es l.fn.dropped → IsDropping l.p (es ++ map (altered l.fn.table) (take l.a-index l.actions)) l.dropped;
  reported : (es : List Altered) → IsDropping l.p es l.fn.dropped → l.out ≡ l.fn.out ++ each_event (report_on l.robust l.p) es (map (altered l.fn.table) (take l.a-index l.actions));
}
