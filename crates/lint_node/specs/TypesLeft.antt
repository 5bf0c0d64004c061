-- What a walk over the column types of a statement has left.
use Rattle.std.specs.Prelude.{ℕ, suc, ◌+◌, List, ◌++◌, map, length}
use Rattle.std.specs.List.{flat_map, sum}
use Rattle.sql_tree.specs.declared.nodes.Action.{Action}
use Rattle.sql_tree.specs.declared.nodes.ColType.{ColType}
use Rattle.lint_node.specs.declared.types.TypedNodes.{TypedNodes}
use Rattle.lint_node.specs.ColumnTypes.{action_types, element_types, piece_types}

-- the types that are still to come
unfoldable pub types_left : TypedNodes → List ColType
types_left t = element_types t.elements.now ++ (piece_types t.pieces.now ++ flat_map action_types t.actions.now)

-- the action and its pieces
abbrev pub action_nodes : Action → ℕ
action_nodes a = suc (length a.pieces)

-- how many nodes are still to be passed
abbrev pub nodes_left : TypedNodes → ℕ
nodes_left t = length t.elements.now + (length t.pieces.now + sum (map action_nodes t.actions.now))
