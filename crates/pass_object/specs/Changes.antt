-- What rows report of a statement and of the nodes in it (PostgreSQL manual, ALTER TABLE, ALTER SEQUENCE, ALTER TYPE and
-- CREATE INDEX).
use Rattle.std.specs.Prelude.{ℕ, Bool, false, ◌&&◌, ◌||◌, ◌==◌, not, List, [], ◌∷◌, ◌++◌, length, map, if◌then◌else◌}
use Rattle.std.specs.Borrow.{Bor}
use Rattle.std.specs.List.{flat_map, list_any}
use Rattle.lint_pass.specs.text_pos.Range.{Range}
use Rattle.lint_base.specs.declared.rule.Rule.{Rule}
use Rattle.lint_base.specs.declared.violation.Violation.{Violation}
use Rattle.lint_base.specs.RuleSets.{Rules, has}
use Rattle.lint_base.specs.Violations.{violation}
use Rattle.lint_pass.specs.sql_tree.declared.kinds.ActionKind.TheVariants as action
use Rattle.lint_pass.specs.sql_tree.declared.kinds.PieceKind.TheVariants as piece
use Rattle.lint_pass.specs.sql_tree.declared.nodes.Action.{Action}
use Rattle.lint_pass.specs.sql_tree.declared.nodes.Body.{Body}
use Rattle.lint_pass.specs.sql_tree.declared.nodes.Body.TheVariants as body
use Rattle.lint_pass.specs.sql_tree.declared.nodes.Constraint.{Constraint}
use Rattle.lint_pass.specs.sql_tree.declared.nodes.Piece.{Piece}
use Rattle.lint_pass.specs.sql_tree.declared.nodes.Stmt.{Stmt}
use Rattle.lint_pass.specs.sql_tree.Nodes.{actions_in}
use Rattle.lint_pass.specs.sql_tree.Range.{span_range_of, stmt_range_of}
use Rattle.lint_pass.specs.sql_tree.Statement.{Tree}
use Rattle.lint_pass.specs.lint_node.Parts.{new_constraints}
use Rattle.lint_pass.specs.lint_node.Same.{same_action, same_constraint, same_piece}
use Rattle.pass_object.specs.declared.changes.Changes.{Changes}
use Rattle.pass_object.specs.declared.changes.Node.{Node}
use Rattle.pass_object.specs.declared.changes.Node.TheVariants as node
use Rattle.pass_object.specs.declared.changes.Spot.{Spot}
use Rattle.pass_object.specs.declared.changes.Spot.TheVariants as spot
use Rattle.pass_object.specs.Words.{changes_values}

-- ---- rows

-- a rule, a spot and a message
abbrev pub Row : Type 0
Row = Rule × Spot × List ℕ

-- a row whose text is lent
abbrev pub lent : Rule × Spot × Bor (List ℕ) → Row
lent r = (r.0, r.1, r.2.now)

-- the spot is that of the node
abbrev pub fits : Spot → Node → Bool
fits spot.UniqueIndex (node.Statement unique) = unique
fits (spot.Action k) (node.Action a timing) = same_action k a
fits spot.Timing (node.Action a timing) = timing
fits (spot.NewColumn k) (node.Constraint c) = same_constraint k c
fits (spot.Piece k) (node.Piece q all changes) = same_piece k q
fits (spot.OnePiece k) (node.Piece q all changes) = same_piece k q && all
fits (spot.AmongPieces k) (node.Piece q all changes) = same_piece k q && not all
fits spot.SequencePiece (node.Piece q all changes) = changes
fits _ _ = false

abbrev pub where_fits : Node → Range → Row → List Violation
where_fits at range r = if fits r.1 at then violation r.0 r.2 range ∷ [] else []

abbrev pub by_row : Rules → Node → Range → Row → List Violation
by_row rules at range r = if has rules r.0 then where_fits at range r else []

abbrev pub by_rows : Rules → List Row → Node → Range → List Violation
by_rows rules rows at range = flat_map (by_row rules at range) rows

-- the reports of a node
abbrev pub by : Changes → Node → Range → List Violation
by changes = by_rows changes.rules (map lent changes.rows.now)

-- ---- nodes

-- a CREATE INDEX with UNIQUE
abbrev pub is_unique : Body → Bool
is_unique (body.Index word unique concurrently guarded name path) = unique
is_unique _ = false

abbrev pub is_timing_piece : Piece → Bool
is_timing_piece q =
    same_piece q.kind piece.Enforced || same_piece q.kind piece.Deferrable || same_piece q.kind piece.NotDeferrable || same_piece q.kind piece.Initially

abbrev pub has_timing_piece : List Piece → Bool
has_timing_piece pieces = list_any is_timing_piece pieces

-- an ALTER CONSTRAINT that says ENFORCED, DEFERRABLE, NOT DEFERRABLE or INITIALLY
abbrev pub is_timing : Action → Bool
is_timing a = same_action a.kind action.AlterConstraint && has_timing_piece a.pieces

abbrev pub has_one_piece : Action → Bool
has_one_piece a = length a.pieces == 1

-- ---- the walk

-- what is reported at a node
abbrev pub At : Type 0
At = Node → Range → List Violation

abbrev pub at_constraint : At → Tree → Constraint → List Violation
at_constraint at tree c = at (node.Constraint c.kind) (span_range_of tree.toks c.first c.last)

abbrev pub at_piece : At → Tree → Bool → Piece → List Violation
at_piece at tree all q = at (node.Piece q.kind all (changes_values tree q)) (span_range_of tree.toks q.first q.last)

abbrev pub at_pieces : At → Tree → Action → List Violation
at_pieces at tree a = flat_map (at_piece at tree (has_one_piece a)) a.pieces

abbrev pub at_parts : At → Tree → Action → List Violation
at_parts at tree a = flat_map (at_constraint at tree) (new_constraints a) ++ at_pieces at tree a

abbrev pub at_action : At → Tree → Action → List Violation
at_action at tree a = at (node.Action a.kind (is_timing a)) (span_range_of tree.toks a.first a.last) ++ at_parts at tree a

-- the statement, and then each action and what is in it
abbrev pub at_statement : At → Tree → Stmt → List Violation
at_statement at tree s = at (node.Statement (is_unique s.body)) (stmt_range_of tree.toks s) ++ flat_map (at_action at tree) (actions_in s.body)
