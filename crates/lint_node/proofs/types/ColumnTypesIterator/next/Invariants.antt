use Rattle.std.proofs.Common.{◌≡◌}
use Rattle.lint_node.specs.TypesLeft.{nodes_left, types_left}
use Rattle.lint_node.proofs.types.ColumnTypesIterator.next.Given as goal

-- the nodes that were passed over have no type
abbrev pub invariant-loop-found : goal.invariant-loop-found
invariant-loop-found l = types_left l.self-inside.nodes ≡ l.fn.self

abbrev pub decreases-loop-found : goal.decreases-loop-found
decreases-loop-found l = nodes_left l.self-inside.nodes
