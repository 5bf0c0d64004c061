-- What is reported wherever it is.
use Rattle.std.specs.Prelude.{ℕ, Bool, true, false, ◌&&◌, List, [], ◌∷◌, Option, Some, None, if◌then◌else◌}
use Rattle.std.specs.Borrow.{Bor}
use Rattle.std.specs.List.{flat_map, list_any}
use Rattle.lint_base.specs.text_pos.Range.{Range}
use Rattle.lint_base.specs.declared.rule.Rule.{Rule}
use Rattle.lint_base.specs.declared.violation.Violation.{Violation}
use Rattle.lint_ignore.specs.sql_tree.declared.kinds.PieceKind.TheVariants as piece
use Rattle.lint_ignore.specs.sql_tree.declared.kinds.StmtKind.{StmtKind}
use Rattle.lint_ignore.specs.sql_tree.declared.nodes.Stmt.{Stmt}
use Rattle.lint_ignore.specs.sql_tree.Range.{stmt_range_of}
use Rattle.lint_ignore.specs.sql_tree.Statement.{Tree}
use Rattle.lint_pass.specs.declared.bans.Spot.{Spot}
use Rattle.lint_pass.specs.declared.bans.Spot.TheVariants as spot
use Rattle.lint_pass.specs.declared.nodes.Node.{Node}
use Rattle.lint_pass.specs.declared.nodes.Node.TheVariants as node
use Rattle.lint_ignore.specs.sql_tree.Nodes.{actions_in}
use Rattle.lint_node.specs.Parts.{has_action, replaces_by}
use Rattle.lint_pass.specs.NodeWalk.{walked}
use Rattle.lint_node.specs.Same.{same_action, same_constraint, same_kind, same_piece}

-- a spot, a message and a note
abbrev pub BanRow : Type 0
BanRow = Spot × List ℕ × List ℕ

-- a row whose texts are lent
abbrev pub lent : Spot × Bor (List ℕ) × Bor (List ℕ) → BanRow
lent r = (r.0, r.1.now, r.2.now)

-- the spot is that of the statement
abbrev pub fits_statement : Spot → Stmt → Bool
fits_statement (spot.Statement k) s = same_kind k s.kind
fits_statement (spot.Replacing k) s = same_kind k s.kind && replaces_by s.body
fits_statement (spot.Having k a) s = same_kind k s.kind && has_action a (actions_in s.body)
fits_statement _ s = false

-- the spot is that of the node
abbrev pub fits : Spot → Node → Bool
fits (spot.Action k a) (node.Action n b) = same_kind k n && same_action a b
fits (spot.AnyAction a) (node.Action n b) = same_action a b
fits (spot.NewColumn k c) (node.Constraint n b) = same_kind k n && same_constraint c b
fits (spot.Piece k a) (node.Piece n b always) = same_kind k n && same_piece a b
fits (spot.Always k) (node.Piece n b always) = same_kind k n && (same_piece piece.SetGenerated b && always)
fits _ _ = false

-- a row of the spot can report something in a statement of the kind
abbrev pub concerns : Spot → StmtKind → Bool
concerns (spot.Statement k) n = same_kind k n
concerns (spot.Replacing k) n = same_kind k n
concerns (spot.Having k a) n = same_kind k n
concerns (spot.Action k a) n = same_kind k n
concerns (spot.AnyAction a) n = true
concerns (spot.NewColumn k c) n = same_kind k n
concerns (spot.Piece k a) n = same_kind k n
concerns (spot.Always k) n = same_kind k n

-- no note is written as the empty text
abbrev pub note_of : List ℕ → Option (List ℕ)
note_of [] = None
note_of (b ∷ bs) = Some (b ∷ bs)

abbrev pub ban_report : Rule → List ℕ → List ℕ → Range → Violation
ban_report code message note range = record { code = code; message = message; text_range = range; note = note_of note; help = None; fix = None }

-- ---- by the rows of one rule

-- some row can report something in a statement of the kind
abbrev pub rows_concern : List (Spot × Bor (List ℕ) × Bor (List ℕ)) → StmtKind → Bool
rows_concern rows kind = list_any (λ r. concerns r.0 kind) rows

abbrev pub on_row : Rule → Tree → Stmt → BanRow → List Violation
on_row code tree s r = if fits_statement r.0 s then ban_report code r.1 r.2 (stmt_range_of tree.toks s) ∷ [] else []

abbrev pub by_row : Rule → Node → Range → BanRow → List Violation
by_row code at range r = if fits r.0 at then ban_report code r.1 r.2 range ∷ [] else []

abbrev pub on_rows : Rule → List BanRow → Tree → Stmt → List Violation
on_rows code rows tree s = flat_map (on_row code tree s) rows

abbrev pub by_rows : Rule → List BanRow → Node → Range → List Violation
by_rows code rows at range = flat_map (by_row code at range) rows

-- node by node, and by each row
abbrev pub bans_on : Rule → List BanRow → Tree → Stmt → List Violation
bans_on code rows tree s = walked (on_rows code rows) (by_rows code rows) tree s
