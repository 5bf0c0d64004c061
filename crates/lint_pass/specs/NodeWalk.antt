-- A walk over a statement and the nodes in it, by place.
use Rattle.std.specs.Prelude.{List, ◌++◌}
use Rattle.std.specs.List.{flat_map}
use Rattle.lint_base.specs.text_pos.Range.{Range}
use Rattle.lint_base.specs.declared.violation.Violation.{Violation}
use Rattle.lint_ignore.specs.sql_tree.declared.kinds.StmtKind.{StmtKind}
use Rattle.lint_ignore.specs.sql_tree.declared.nodes.Action.{Action}
use Rattle.lint_ignore.specs.sql_tree.declared.nodes.Constraint.{Constraint}
use Rattle.lint_ignore.specs.sql_tree.declared.nodes.Piece.{Piece}
use Rattle.lint_ignore.specs.sql_tree.declared.nodes.Stmt.{Stmt}
use Rattle.lint_ignore.specs.sql_tree.Range.{span_range_of}
use Rattle.lint_ignore.specs.sql_tree.Statement.{Tree}
use Rattle.lint_ignore.specs.sql_tree.Nodes.{actions_in}
use Rattle.lint_node.specs.Parts.{new_constraints}
use Rattle.lint_pass.specs.declared.nodes.Node.{Node}
use Rattle.lint_pass.specs.declared.nodes.Node.TheVariants as node

-- what a walk does at a node that is no statement
abbrev pub At : Type 0
At = Node → Range → List Violation

abbrev pub at_constraint : At → Tree → StmtKind → Constraint → List Violation
at_constraint at tree kind c = at (node.Constraint kind c.kind) (span_range_of tree.toks c.first c.last)

abbrev pub at_piece : At → Tree → StmtKind → Piece → List Violation
at_piece at tree kind q = at (node.Piece kind q.kind q.always) (span_range_of tree.toks q.first q.last)

abbrev pub at_parts : At → Tree → StmtKind → Action → List Violation
at_parts at tree kind a = flat_map (at_constraint at tree kind) (new_constraints a) ++ flat_map (at_piece at tree kind) a.pieces

abbrev pub at_action : At → Tree → StmtKind → Action → List Violation
at_action at tree kind a = at (node.Action kind a.kind) (span_range_of tree.toks a.first a.last) ++ at_parts at tree kind a

-- what is reported of the statement, and then of each action and what is in it
abbrev pub walked : (Tree → Stmt → List Violation) → At → Tree → Stmt → List Violation
walked on at tree s = on tree s ++ flat_map (at_action at tree s.kind) (actions_in s.body)
