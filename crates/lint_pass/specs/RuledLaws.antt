-- What holds of the reports by rows that each name their rule.
use Rattle.std.specs.Prelude.{◌≡◌, ℕ, Bool, true, false, ◌&&◌, All, List, [], ◌∷◌, length, refl, if◌then◌else◌}
use Rattle.std.proofs.Common.{sym, ◌∙◌, subst, inl, inr}
use Rattle.std.proofs.lemmas.Bool.{cases_Bool}
use Rattle.std.proofs.lemmas.List.Elements.{All-append, All-cons, All-head, All-nil, All-tail}
use Rattle.std.specs.List.{flat_map}
use Rattle.lint_base.specs.text_pos.Range.{Range}
use Rattle.lint_base.specs.declared.rule.Rule.{Rule}
use Rattle.lint_base.specs.declared.violation.Violation.{Violation}
use Rattle.lint_base.specs.RuleNames.{same_rule}
use Rattle.lint_base.specs.RuleSets.{Rules, has}
use Rattle.lint_base.specs.Violations.{violation}
use Rattle.lint_transaction.specs.Transaction.{stmt_at}
use Rattle.lint_ignore.specs.sql_tree.declared.nodes.Action.{Action}
use Rattle.lint_ignore.specs.sql_tree.declared.nodes.Stmt.{Stmt}
use Rattle.lint_ignore.specs.sql_tree.Range.{span_range_of, stmt_range_of}
use Rattle.lint_ignore.specs.sql_tree.Statement.{Tree}
use Rattle.lint_ignore.specs.sql_tree.Nodes.{actions_in}
use Rattle.lint_node.specs.Parts.{new_constraints}
use Rattle.lint_pass.specs.declared.nodes.Node.{Node}
use Rattle.lint_pass.specs.declared.nodes.Node.TheVariants as node
use Rattle.lint_pass.specs.Bans.{fits, fits_statement}
use Rattle.lint_pass.specs.Laws.{HasCode, IsOf, IsRead, IsPlacedIn, reports_by}
use Rattle.lint_pass.specs.NodeWalk.{At, at_action, at_constraint, at_parts, at_piece, walked}
use Rattle.lint_pass.specs.NodeWalkLaws.{walked_all}
use Rattle.lint_pass.specs.PairLaws.{pair_apart, pieces_apart}
use Rattle.lint_pass.specs.PlaceLaws.{span_place}
use Rattle.lint_pass.specs.Ruled.{IsOwned, RuledRow, by_ruled, by_ruled_rows, on_ruled, on_ruled_rows, owns, ruled_at, ruled_on, ruled_table}
use Rattle.lint_pass.specs.RuleLaws.{none_by, one_all, pieces_all, same_is, where_all}

and_first : (a b : Bool) → (a && b) ≡ true → a ≡ true
and_first true b h = refl
and_first false b h = absurd (cc)

and_second : (a b : Bool) → (a && b) ≡ true → b ≡ true
and_second true b h = h
and_second false b h = absurd (cc)

owned : (own : Rules) (rows : List RuledRow) → owns own rows ≡ true → All (IsOwned own) rows
owned own [] h = All-nil (IsOwned own)
owned own (r ∷ rows) h =
    All-cons (IsOwned own) r rows (and_first (has own r.0) (owns own rows) h) (owned own rows (and_second (has own r.0) (owns own rows) h))

-- what holds of the reports of each row that meets Q holds of all
flat_all_of : {X Y : Type 0} (Q : X → Type 0) (P : Y → Type 0) (f : X → List Y) (xs : List X) → All Q xs → ((x : X) → Q x → All P (f x)) → All P (flat_map f xs)
flat_all_of Q P f [] q h = All-nil P
flat_all_of Q P f (x ∷ xs) q h = All-append P (f x) (flat_map f xs) (h x (All-head Q x xs q)) (flat_all_of Q P f xs (All-tail Q x xs q) h)

ruled_all : (P : Violation → Type 0) (Q : RuledRow → Type 0) (rows : List RuledRow) (tree : Tree) (rules : Rules) (s : Stmt) → All Q rows
    → ((r : RuledRow) → Q r → has rules r.0 ≡ true → (first last : ℕ) → P (violation r.0 r.2 (span_range_of tree.toks first last))) → All P (ruled_on rows tree rules s)
ruled_all P Q rows tree rules s q h = walked_all P (on_ruled_rows rules rows) (by_ruled_rows rules rows) tree s on_all by_all
  where
    on_all : All P (on_ruled_rows rules rows tree s)
    on_all =
        flat_all_of Q P (on_ruled rules tree s) rows q
        (λ r qr. where_all P (has rules r.0 && fits_statement r.1 s) (violation r.0 r.2 (stmt_range_of tree.toks s) ∷ [])
        (λ e. one_all P (violation r.0 r.2 (stmt_range_of tree.toks s)) (h r qr (and_first (has rules r.0) (fits_statement r.1 s) e) s.first s.last)))

    by_all : (at : Node) (first last : ℕ) → All P (by_ruled_rows rules rows at (span_range_of tree.toks first last))
    by_all at first last =
        flat_all_of Q P (by_ruled rules at (span_range_of tree.toks first last)) rows q
        (λ r qr. where_all P (has rules r.0 && fits r.1 at) (violation r.0 r.2 (span_range_of tree.toks first last) ∷ [])
        (λ e. one_all P (violation r.0 r.2 (span_range_of tree.toks first last)) (h r qr (and_first (has rules r.0) (fits r.1 at) e) first last)))

pub ruled_coded : (own : Rules) (rows : List RuledRow) (tree : Tree) (rules : Rules) → owns own rows ≡ true → All (IsOf own rules) (ruled_table rows tree rules)
ruled_coded own rows tree rules h =
    pieces_all (IsOf own rules) (ruled_at rows tree rules) (length tree.stmts)
    (λ i. ruled_all (IsOf own rules) (IsOwned own) rows tree rules (stmt_at tree i) (owned own rows h) (λ r o e _ _. record { own = o; enabled = e }))

pub ruled_placed : (own : Rules) (rows : List RuledRow) (tree : Tree) (rules : Rules) → owns own rows ≡ true → IsRead tree → All (IsPlacedIn tree) (ruled_table rows tree rules)
ruled_placed own rows tree rules h read =
    pieces_all (IsPlacedIn tree) (ruled_at rows tree rules) (length tree.stmts)
    (λ i. ruled_all (IsPlacedIn tree) (IsOwned own) rows tree rules (stmt_at tree i) (owned own rows h) (λ r o e first last. record { range = span_place tree read first last; edits = tt }))

-- ---- other rules

flat_apart : {X : Type 0} (q : Rule) (f g : X → List Violation) (xs : List X) → ((x : X) → reports_by q (f x) ≡ reports_by q (g x)) → reports_by q (flat_map f xs) ≡ reports_by q (flat_map g xs)
flat_apart q f g [] h = refl
flat_apart q f g (x ∷ xs) h = pair_apart q (f x) (g x) (flat_map f xs) (flat_map g xs) (h x) (flat_apart q f g xs h)

walked_apart : (q : Rule) (on other_on : Tree → Stmt → List Violation) (at other_at : At) (tree : Tree) (s : Stmt) → reports_by q (on tree s) ≡ reports_by q (other_on tree s)
    → ((n : Node) (range : Range) → reports_by q (at n range) ≡ reports_by q (other_at n range)) → reports_by q (walked on at tree s) ≡ reports_by q (walked other_on other_at tree s)
walked_apart q on other_on at other_at tree s h k =
    pair_apart q (on tree s) (other_on tree s) (flat_map (at_action at tree s.kind) (actions_in s.body)) (flat_map (at_action other_at tree s.kind) (actions_in s.body)) h
    (flat_apart q (at_action at tree s.kind) (at_action other_at tree s.kind) (actions_in s.body) of_action)
  where
    of_parts : (a : Action) → reports_by q (at_parts at tree s.kind a) ≡ reports_by q (at_parts other_at tree s.kind a)
    of_parts a =
        pair_apart q (flat_map (at_constraint at tree s.kind) (new_constraints a)) (flat_map (at_constraint other_at tree s.kind) (new_constraints a))
        (flat_map (at_piece at tree s.kind) a.pieces) (flat_map (at_piece other_at tree s.kind) a.pieces)
        (flat_apart q (at_constraint at tree s.kind) (at_constraint other_at tree s.kind) (new_constraints a) (λ c. k (node.Constraint s.kind c.kind) (span_range_of tree.toks c.first c.last)))
        (flat_apart q (at_piece at tree s.kind) (at_piece other_at tree s.kind) a.pieces (λ p. k (node.Piece s.kind p.kind p.always) (span_range_of tree.toks p.first p.last)))

    of_action : (a : Action) → reports_by q (at_action at tree s.kind a) ≡ reports_by q (at_action other_at tree s.kind a)
    of_action a =
        pair_apart q (at (node.Action s.kind a.kind) (span_range_of tree.toks a.first a.last)) (other_at (node.Action s.kind a.kind) (span_range_of tree.toks a.first a.last))
        (at_parts at tree s.kind a) (at_parts other_at tree s.kind a) (k (node.Action s.kind a.kind) (span_range_of tree.toks a.first a.last)) (of_parts a)

-- a report under a rule and a test
one_apart : (q : Rule) (some others : Rules) (v : Violation) (b : Bool) → has some q ≡ has others q
    → reports_by q (if has some v.code && b then v ∷ [] else []) ≡ reports_by q (if has others v.code && b then v ∷ [] else [])
one_apart q some others v b same =
    elim (cases_Bool (same_rule q v.code)) [
      | inl is ↦
          let agree : has some v.code ≡ has others v.code = subst (λ c. has some c ≡ has others c) (same_is q v.code is) same in
          λ i. reports_by q (if agree i && b then v ∷ [] else [])
      | inr other ↦ none some other ∙ sym (none others other)
    ]
  where
    none : (rules : Rules) → same_rule q v.code ≡ false → reports_by q (if has rules v.code && b then v ∷ [] else []) ≡ []
    none rules other =
        none_by q v.code (if has rules v.code && b then v ∷ [] else []) other
        (where_all (HasCode v.code) (has rules v.code && b) (v ∷ []) (λ _. one_all (HasCode v.code) v refl))

pub ruled_apart : (rows : List RuledRow) (tree : Tree) (q : Rule) (some others : Rules) → has some q ≡ has others q
    → reports_by q (ruled_table rows tree some) ≡ reports_by q (ruled_table rows tree others)
ruled_apart rows tree q some others same =
    pieces_apart q (ruled_at rows tree some) (ruled_at rows tree others) (length tree.stmts)
    (λ i. walked_apart q (on_ruled_rows some rows) (on_ruled_rows others rows) (by_ruled_rows some rows) (by_ruled_rows others rows) tree (stmt_at tree i)
    (flat_apart q (on_ruled some tree (stmt_at tree i)) (on_ruled others tree (stmt_at tree i)) rows
    (λ r. one_apart q some others (violation r.0 r.2 (stmt_range_of tree.toks (stmt_at tree i))) (fits_statement r.1 (stmt_at tree i)) same))
    (λ n range. flat_apart q (by_ruled some n range) (by_ruled others n range) rows (λ r. one_apart q some others (violation r.0 r.2 range) (fits r.1 n) same)))
