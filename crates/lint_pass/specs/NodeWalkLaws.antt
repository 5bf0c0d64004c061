-- What holds of all that a walk over the nodes of a statement reports.
use Rattle.std.specs.Prelude.{ℕ, All, List}
use Rattle.std.proofs.lemmas.List.Elements.{All-append}
use Rattle.std.specs.List.{flat_map}
use Rattle.lint_base.specs.declared.violation.Violation.{Violation}
use Rattle.lint_ignore.specs.sql_tree.declared.nodes.Action.{Action}
use Rattle.lint_ignore.specs.sql_tree.declared.nodes.Stmt.{Stmt}
use Rattle.lint_ignore.specs.sql_tree.Range.{span_range_of}
use Rattle.lint_ignore.specs.sql_tree.Statement.{Tree}
use Rattle.lint_ignore.specs.sql_tree.Nodes.{actions_in}
use Rattle.lint_node.specs.Parts.{new_constraints}
use Rattle.lint_pass.specs.declared.nodes.Node.{Node}
use Rattle.lint_pass.specs.declared.nodes.Node.TheVariants as node
use Rattle.lint_pass.specs.NodeWalk.{At, at_action, at_constraint, at_parts, at_piece, walked}
use Rattle.lint_pass.specs.RuleLaws.{flat_all}

-- what holds at each node holds of all
pub walked_all : (P : Violation → Type 0) (on : Tree → Stmt → List Violation) (at : At) (tree : Tree) (s : Stmt) → All P (on tree s)
    → ((n : Node) (first last : ℕ) → All P (at n (span_range_of tree.toks first last))) → All P (walked on at tree s)
walked_all P on at tree s h k =
    All-append P (on tree s) (flat_map (at_action at tree s.kind) (actions_in s.body)) h (flat_all P (at_action at tree s.kind) (actions_in s.body) of_action)
  where
    of_parts : (a : Action) → All P (at_parts at tree s.kind a)
    of_parts a =
        All-append P (flat_map (at_constraint at tree s.kind) (new_constraints a)) (flat_map (at_piece at tree s.kind) a.pieces)
        (flat_all P (at_constraint at tree s.kind) (new_constraints a) (λ c. k (node.Constraint s.kind c.kind) c.first c.last))
        (flat_all P (at_piece at tree s.kind) a.pieces (λ q. k (node.Piece s.kind q.kind q.always) q.first q.last))

    of_action : (a : Action) → All P (at_action at tree s.kind a)
    of_action a = All-append P (at (node.Action s.kind a.kind) (span_range_of tree.toks a.first a.last)) (at_parts at tree s.kind a) (k (node.Action s.kind a.kind) a.first a.last) (of_parts a)
