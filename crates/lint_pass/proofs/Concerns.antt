-- A statement of a kind that no row concerns has no report.
use Rattle.std.specs.Prelude.{if◌then◌else◌}
use Rattle.std.proofs.Common.{◌≡◌, ◌∙◌, refl, sym, ap, subst, map, ℕ, Bool, true, false, ◌&&◌, ◌||◌, List, [], ◌∷◌, ◌++◌}
use Rattle.std.proofs.lemmas.List.{append-nil}
use Rattle.std.specs.Borrow.{Bor}
use Rattle.std.specs.List.{flat_map, list_any}
use Rattle.lint_base.specs.text_pos.Range.{Range}
use Rattle.lint_base.specs.declared.rule.Rule.{Rule}
use Rattle.lint_base.specs.declared.violation.Violation.{Violation}
use Rattle.lint_base.specs.RuleSets.{Rules, has}
use Rattle.lint_base.specs.Violations.{violation}
use Rattle.lint_ignore.specs.sql_tree.declared.kinds.PieceKind.TheVariants as piece
use Rattle.lint_ignore.specs.sql_tree.declared.kinds.StmtKind.{StmtKind}
use Rattle.lint_ignore.specs.sql_tree.declared.nodes.Action.{Action}
use Rattle.lint_ignore.specs.sql_tree.declared.nodes.Stmt.{Stmt}
use Rattle.lint_ignore.specs.sql_tree.Nodes.{actions_in}
use Rattle.lint_ignore.specs.sql_tree.Range.{span_range_of, stmt_range_of}
use Rattle.lint_ignore.specs.sql_tree.Statement.{Tree}
use Rattle.lint_node.specs.Parts.{has_action, new_constraints, replaces_by}
use Rattle.lint_node.specs.Same.{same_action, same_constraint, same_piece}
use Rattle.lint_pass.specs.declared.bans.Spot.{Spot}
use Rattle.lint_pass.specs.declared.bans.Spot.TheVariants as spot
use Rattle.lint_pass.specs.declared.nodes.Node.{Node}
use Rattle.lint_pass.specs.declared.nodes.Node.TheVariants as node
use Rattle.lint_pass.specs.Bans.{ban_report, bans_on, by_row, by_rows, concerns, fits, fits_statement, lent, on_row, on_rows, rows_concern}
use Rattle.lint_pass.specs.NodeWalk.{At, at_action, at_constraint, at_parts, at_piece, walked}
use Rattle.lint_pass.specs.Ruled.{by_ruled, by_ruled_rows, lent_ruled, on_ruled, on_ruled_rows, ruled_concern, ruled_on}

-- ---- one row

abbrev kind_of : Node → StmtKind
kind_of (node.Action n b) = n
kind_of (node.Constraint n b) = n
kind_of (node.Piece n b always) = n

unfit_statement : (p : Spot) (s : Stmt) → concerns p s.kind ≡ false → fits_statement p s ≡ false
unfit_statement (spot.Statement k) s h = h
unfit_statement (spot.Replacing k) s h = ap (λ b. b && replaces_by s.body) h
unfit_statement (spot.Having k a) s h = ap (λ b. b && has_action a (actions_in s.body)) h
unfit_statement (spot.Action k a) s h = refl
unfit_statement (spot.AnyAction a) s h = refl
unfit_statement (spot.NewColumn k c) s h = refl
unfit_statement (spot.Piece k a) s h = refl
unfit_statement (spot.Always k) s h = refl

unfit_node : (p : Spot) (at : Node) → concerns p (kind_of at) ≡ false → fits p at ≡ false
unfit_node (spot.Statement k) at h = refl
unfit_node (spot.Replacing k) at h = refl
unfit_node (spot.Having k a) at h = refl
unfit_node (spot.Action k a) (node.Action n b) h = ap (λ x. x && same_action a b) h
unfit_node (spot.Action k a) (node.Constraint n b) h = refl
unfit_node (spot.Action k a) (node.Piece n b always) h = refl
unfit_node (spot.AnyAction a) at h = absurd (cc)
unfit_node (spot.NewColumn k c) (node.Action n b) h = refl
unfit_node (spot.NewColumn k c) (node.Constraint n b) h = ap (λ x. x && same_constraint c b) h
unfit_node (spot.NewColumn k c) (node.Piece n b always) h = refl
unfit_node (spot.Piece k a) (node.Action n b) h = refl
unfit_node (spot.Piece k a) (node.Constraint n b) h = refl
unfit_node (spot.Piece k a) (node.Piece n b always) h = ap (λ x. x && same_piece a b) h
unfit_node (spot.Always k) (node.Action n b) h = refl
unfit_node (spot.Always k) (node.Constraint n b) h = refl
unfit_node (spot.Always k) (node.Piece n b always) h = ap (λ x. x && (same_piece piece.SetGenerated b && always)) h

unless_true : {X : Type 0} (b : Bool) (xs : List X) → b ≡ false → (if b then xs else []) ≡ []
unless_true b xs h = ap (λ x. if x then xs else []) h

unless_both : {X : Type 0} (a b : Bool) (xs : List X) → b ≡ false → (if a && b then xs else []) ≡ []
unless_both true b xs h = unless_true b xs h
unless_both false b xs h = refl

-- ---- all rows

or_first : (a b : Bool) → (a || b) ≡ false → a ≡ false
or_first true b h = absurd (cc)
or_first false b h = refl

or_second : (a b : Bool) → (a || b) ≡ false → b ≡ false
or_second true b h = absurd (cc)
or_second false b h = h

-- no row passes the test, and a row that does not has no report
none_of : {R S X : Type 0} (test : R → Bool) (g : R → S) (f : S → List X) (rows : List R) → ((r : R) → test r ≡ false → f (g r) ≡ []) → list_any test rows ≡ false → flat_map f (map g rows) ≡ []
none_of test g f [] h e = refl
none_of test g f (r ∷ rows) h e = λ i. h r (or_first (test r) (list_any test rows) e) i ++ none_of test g f rows h (or_second (test r) (list_any test rows) e) i

-- ---- a statement and the nodes in it

nothing_in : {X Y : Type 0} (f : X → List Y) (xs : List X) → ((x : X) → f x ≡ []) → flat_map f xs ≡ []
nothing_in f [] h = refl
nothing_in f (x ∷ xs) h = λ i. h x i ++ nothing_in f xs h i

walked_none : (on : Tree → Stmt → List Violation) (at : At) (tree : Tree) (s : Stmt) → on tree s ≡ [] → ((n : Node) (range : Range) → kind_of n ≡ s.kind → at n range ≡ []) → walked on at tree s ≡ []
walked_none on at tree s h k = λ i. h i ++ nothing_in (at_action at tree s.kind) (actions_in s.body) of_action i
  where
    of_parts : (a : Action) → at_parts at tree s.kind a ≡ []
    of_parts a =
        λ i. nothing_in (at_constraint at tree s.kind) (new_constraints a) (λ c. k (node.Constraint s.kind c.kind) (span_range_of tree.toks c.first c.last) refl) i
        ++ nothing_in (at_piece at tree s.kind) a.pieces (λ q. k (node.Piece s.kind q.kind q.always) (span_range_of tree.toks q.first q.last) refl) i

    of_action : (a : Action) → at_action at tree s.kind a ≡ []
    of_action a = λ i. k (node.Action s.kind a.kind) (span_range_of tree.toks a.first a.last) refl i ++ of_parts a i

-- the rows of a rule
pub bans_none : (code : Rule) (rows : List (Spot × Bor (List ℕ) × Bor (List ℕ))) (tree : Tree) (s : Stmt) → rows_concern rows s.kind ≡ false → bans_on code (map lent rows) tree s ≡ []
bans_none code rows tree s h = walked_none (on_rows code (map lent rows)) (by_rows code (map lent rows)) tree s on_none by_none
  where
    on_none : on_rows code (map lent rows) tree s ≡ []
    on_none =
        none_of (λ r. concerns r.0 s.kind) lent (on_row code tree s) rows
        (λ r e. unless_true (fits_statement r.0 s) (ban_report code r.1.now r.2.now (stmt_range_of tree.toks s) ∷ []) (unfit_statement r.0 s e)) h

    by_none : (n : Node) (range : Range) → kind_of n ≡ s.kind → by_rows code (map lent rows) n range ≡ []
    by_none n range same =
        none_of (λ r. concerns r.0 s.kind) lent (by_row code n range) rows
        (λ r e. unless_true (fits r.0 n) (ban_report code r.1.now r.2.now range ∷ []) (unfit_node r.0 n (subst (λ k. concerns r.0 k ≡ false) (sym same) e))) h

-- rows that each name their rule
pub ruled_none : (rows : List (Rule × Spot × Bor (List ℕ))) (tree : Tree) (rules : Rules) (s : Stmt) → ruled_concern rows s.kind ≡ false → ruled_on (map lent_ruled rows) tree rules s ≡ []
ruled_none rows tree rules s h = walked_none (on_ruled_rows rules (map lent_ruled rows)) (by_ruled_rows rules (map lent_ruled rows)) tree s on_none by_none
  where
    on_none : on_ruled_rows rules (map lent_ruled rows) tree s ≡ []
    on_none =
        none_of (λ r. concerns r.1 s.kind) lent_ruled (on_ruled rules tree s) rows
        (λ r e. unless_both (has rules r.0) (fits_statement r.1 s) (violation r.0 r.2.now (stmt_range_of tree.toks s) ∷ []) (unfit_statement r.1 s e)) h

    by_none : (n : Node) (range : Range) → kind_of n ≡ s.kind → by_ruled_rows rules (map lent_ruled rows) n range ≡ []
    by_none n range same =
        none_of (λ r. concerns r.1 s.kind) lent_ruled (by_ruled rules n range) rows
        (λ r e. unless_both (has rules r.0) (fits r.1 n) (violation r.0 r.2.now range ∷ []) (unfit_node r.1 n (subst (λ k. concerns r.1 k ≡ false) (sym same) e))) h

-- so what was reported before is all
pub bans_kept : (code : Rule) (rows : List (Spot × Bor (List ℕ) × Bor (List ℕ))) (tree : Tree) (s : Stmt) (out : List Violation) → rows_concern rows s.kind ≡ false → out ≡ out ++ bans_on code (map lent rows) tree s
bans_kept code rows tree s out h = sym (ap (λ vs. out ++ vs) (bans_none code rows tree s h) ∙ append-nil out)

pub ruled_kept : (rows : List (Rule × Spot × Bor (List ℕ))) (tree : Tree) (rules : Rules) (s : Stmt) (out : List Violation) → ruled_concern rows s.kind ≡ false → out ≡ out ++ ruled_on (map lent_ruled rows) tree rules s
ruled_kept rows tree rules s out h = sym (ap (λ vs. out ++ vs) (ruled_none rows tree rules s h) ∙ append-nil out)
