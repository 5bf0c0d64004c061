use Rattle.std.proofs.Common.{◌≡◌, ◌++◌, List, map, take}
use Rattle.lint_pass.specs.lint_node.Altered.{Altered, altered}
use Rattle.lint_pass.specs.lint_transaction.Events.{each_event}
use Rattle.pass_history.specs.AddingNotNullField.{report_on}
use Rattle.pass_history.specs.AddingNotNullFieldWalk.{IsKeyed, Knows}
use Rattle.pass_history.proofs.adding_not_null_field.watch_actions.Given as goal

-- the actions so far are known, and were reported on
abbrev pub invariant-loop-a : goal.invariant-loop-a
invariant-loop-a l = record {
  keyed : IsKeyed l.known;
  knows : (es : List Altered) → Knows l.uses l.p es l.fn.known → Knows l.uses l.p (es ++ map (altered l.fn.table) (take l.a-index l.actions)) l.known;
  reported : (es : List Altered) → Knows l.uses l.p es l.fn.known → l.out ≡ l.fn.out ++ each_event (report_on l.uses l.p) es (map (altered l.fn.table) (take l.a-index l.actions));
}
