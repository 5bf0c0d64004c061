-- What holds of each report of a change of an existing object.
use Rattle.std.specs.Prelude.{◌≡◌, ℕ, Bool, true, false, ◌&&◌, All, List, [], ◌∷◌, ◌++◌, length, refl, if◌then◌else◌}
use Rattle.std.proofs.Common.{ap, get_or, inl, inr}
use Rattle.std.proofs.lemmas.Bool.{cases_Bool}
use Rattle.std.proofs.lemmas.List.Folds.{list_any_at}
use Rattle.std.proofs.lemmas.Option.{get_or_from_slice_get}
use Rattle.std.proofs.lemmas.List.Elements.{All-append, All-cons, All-head, All-nil, All-tail}
use Rattle.std.specs.List.{flat_map, list_all}
use Rattle.lint_pass.specs.text_pos.Range.{Range}
use Rattle.lint_base.specs.declared.rule.Rule.{Rule}
use Rattle.lint_base.specs.declared.rule.Rule.TheVariants as rule
use Rattle.lint_base.specs.declared.violation.Violation.{Violation}
use Rattle.lint_base.specs.Rules.{all_rules, number_of}
use Rattle.lint_base.specs.RuleSets.{Rules, has, with_rule}
use Rattle.lint_base.specs.Violations.{violation}
use Rattle.lint_base.proofs.RuleSets.{number_of-lt, rule_at-number_of}
use Rattle.lint_pass.specs.lint_transaction.Transaction.{stmt_at}
use Rattle.lint_pass.specs.sql_tree.declared.kinds.StmtKind.{StmtKind}
use Rattle.lint_pass.specs.sql_tree.declared.kinds.StmtKind.TheVariants as stmt
use Rattle.lint_pass.specs.sql_tree.declared.nodes.Action.{Action}
use Rattle.lint_pass.specs.sql_tree.declared.nodes.Stmt.{Stmt}
use Rattle.lint_pass.specs.sql_tree.Nodes.{actions_in}
use Rattle.lint_pass.specs.sql_tree.Range.{span_range_of}
use Rattle.lint_pass.specs.sql_tree.Statement.{Tree}
use Rattle.lint_pass.specs.lint_node.Parts.{new_constraints}
use Rattle.lint_pass.specs.Laws.{HasCode, IsOf, IsRead, IsPlacedIn, reports_by}
use Rattle.lint_pass.specs.PairLaws.{pair_apart, pieces_apart}
use Rattle.lint_pass.specs.PlaceLaws.{span_place}
use Rattle.lint_pass.specs.RuleLaws.{one_all, pieces_all, unless_all, where_all, where_apart}
use Rattle.pass_object.specs.declared.changes.Node.{Node}
use Rattle.pass_object.specs.declared.changes.Node.TheVariants as node
use Rattle.pass_object.specs.Changes.{At, Row, at_action, at_constraint, at_parts, at_piece, at_pieces, at_statement, by_row, by_rows, fits, has_one_piece, is_timing, is_unique, where_fits}
use Rattle.pass_object.specs.ExistingObjectCompatibility.{IsOwned, changes_in, existing_at, existing_rules, reports_of_existing_object_compatibility, is_enabled, unless_known}
use Rattle.pass_object.specs.KnownObjects.{is_of_known}
use Rattle.pass_object.specs.Rows.{rows_of}
use Rattle.pass_object.specs.Words.{changes_values}

-- ---- the walk

-- A relation of lists of reports that two lists keep when they are joined. What is so related at each node is so of a statement.
module _ (R : List Violation → List Violation → Type 0) (none : R [] []) (both : (a b c d : List Violation) → R a b → R c d → R (a ++ c) (b ++ d)) where
  each : {X : Type 0} (f g : X → List Violation) (xs : List X) → ((x : X) → R (f x) (g x)) → R (flat_map f xs) (flat_map g xs)
  each f g [] h = none
  each f g (x ∷ xs) h = both (f x) (g x) (flat_map f xs) (flat_map g xs) (h x) (each f g xs h)

  each_of : {X : Type 0} (Q : X → Type 0) (f g : X → List Violation) (xs : List X) → All Q xs → ((x : X) → Q x → R (f x) (g x)) → R (flat_map f xs) (flat_map g xs)
  each_of Q f g [] q h = none
  each_of Q f g (x ∷ xs) q h =
      both (f x) (g x) (flat_map f xs) (flat_map g xs) (h x (All-head Q x xs q)) (each_of Q f g xs (All-tail Q x xs q) h)

  walked : (at other : At) (tree : Tree) (s : Stmt) → ((n : Node) (first last : ℕ) → R (at n (span_range_of tree.toks first last)) (other n (span_range_of tree.toks first last)))
      → R (at_statement at tree s) (at_statement other tree s)
  walked at other tree s k =
      both (at (node.Statement (is_unique s.body)) (span_range_of tree.toks s.first s.last)) (other (node.Statement (is_unique s.body)) (span_range_of tree.toks s.first s.last))
      (flat_map (at_action at tree) (actions_in s.body)) (flat_map (at_action other tree) (actions_in s.body))
      (k (node.Statement (is_unique s.body)) s.first s.last)
      (each (at_action at tree) (at_action other tree) (actions_in s.body) of_action)
    where
      of_parts : (a : Action) → R (at_parts at tree a) (at_parts other tree a)
      of_parts a =
          both (flat_map (at_constraint at tree) (new_constraints a)) (flat_map (at_constraint other tree) (new_constraints a)) (at_pieces at tree a) (at_pieces other tree a)
          (each (at_constraint at tree) (at_constraint other tree) (new_constraints a) (λ c. k (node.Constraint c.kind) c.first c.last))
          (each (at_piece at tree (has_one_piece a)) (at_piece other tree (has_one_piece a)) a.pieces
          (λ q. k (node.Piece q.kind (has_one_piece a) (changes_values tree q)) q.first q.last))

      of_action : (a : Action) → R (at_action at tree a) (at_action other tree a)
      of_action a =
          both (at (node.Action a.kind (is_timing a)) (span_range_of tree.toks a.first a.last)) (other (node.Action a.kind (is_timing a)) (span_range_of tree.toks a.first a.last))
          (at_parts at tree a) (at_parts other tree a) (k (node.Action a.kind (is_timing a)) a.first a.last) (of_parts a)

-- ---- rows

and_first : (a b : Bool) → (a && b) ≡ true → a ≡ true
and_first true b h = refl
and_first false b h = absurd (cc)

and_second : (a b : Bool) → (a && b) ≡ true → b ≡ true
and_second true b h = h
and_second false b h = absurd (cc)

all_owned : (rows : List Row) → list_all (λ r. has existing_rules r.0) rows ≡ true → All IsOwned rows
all_owned [] h = All-nil IsOwned
all_owned (r ∷ rows) h =
    let rest = list_all (λ x. has existing_rules x.0) rows in
    All-cons IsOwned r rows (and_first (has existing_rules r.0) rest h) (all_owned rows (and_second (has existing_rules r.0) rest h))

-- each row's rule is one of the pass's
owned : (kind : StmtKind) → list_all (λ r. has existing_rules r.0) (rows_of kind) ≡ true
unfolding has with_rule number_of
owned stmt.AlterTable = refl
owned stmt.AlterForeignTable = refl
owned stmt.AlterDomain = refl
owned stmt.CreateIndex = refl
owned stmt.AlterType = refl
owned stmt.AlterSequence = refl
owned _ = refl

-- ---- what holds of each report

-- what holds of the report of each row whose rule is enabled
all_in : (P : Violation → Type 0) (tree : Tree) (rules : Rules) (s : Stmt)
    → ((r : Row) → IsOwned r → has rules r.0 ≡ true → (first last : ℕ) → P (violation r.0 r.2 (span_range_of tree.toks first last))) → All P (changes_in tree rules s)
all_in P tree rules s h =
    walked (λ vs ws. All P vs) (All-nil P) (λ a b c d x y. All-append P a c x y) (by_rows rules (rows_of s.kind)) (by_rows rules (rows_of s.kind)) tree s of_node
  where
    of_row : (n : Node) (first last : ℕ) (r : Row) → IsOwned r → All P (by_row rules n (span_range_of tree.toks first last) r)
    of_row n first last r o =
        where_all P (has rules r.0) (where_fits n (span_range_of tree.toks first last) r)
        (λ e. where_all P (fits r.1 n) (violation r.0 r.2 (span_range_of tree.toks first last) ∷ [])
        (λ _. one_all P (violation r.0 r.2 (span_range_of tree.toks first last)) (h r o e first last)))

    of_node : (n : Node) (first last : ℕ) → All P (by_rows rules (rows_of s.kind) n (span_range_of tree.toks first last))
    of_node n first last =
        each_of (λ vs ws. All P vs) (All-nil P) (λ a b c d x y. All-append P a c x y) IsOwned (by_row rules n (span_range_of tree.toks first last)) (by_row rules n (span_range_of tree.toks first last)) (rows_of s.kind) (all_owned (rows_of s.kind) (owned s.kind))
        (of_row n first last)

all_at : (P : Violation → Type 0) (tree : Tree) (rules : Rules)
    → ((r : Row) → IsOwned r → has rules r.0 ≡ true → (first last : ℕ) → P (violation r.0 r.2 (span_range_of tree.toks first last))) → All P (reports_of_existing_object_compatibility tree rules)
all_at P tree rules h =
    pieces_all P (existing_at tree rules) (length tree.stmts)
    (λ i. unless_all P (is_of_known tree i (stmt_at tree i)) (changes_in tree rules (stmt_at tree i)) (all_in P tree rules (stmt_at tree i) h))

pub existing_coded : (tree : Tree) (rules : Rules) → All (IsOf existing_rules rules) (reports_of_existing_object_compatibility tree rules)
existing_coded tree rules = all_at (IsOf existing_rules rules) tree rules (λ r o e first last. record { own = o; enabled = e })

pub existing_placed : (tree : Tree) (rules : Rules) → IsRead tree → All (IsPlacedIn tree) (reports_of_existing_object_compatibility tree rules)
existing_placed tree rules read =
    all_at (IsPlacedIn tree) tree rules (λ r o e first last. record { range = span_place tree read first last; edits = tt })

-- ---- other rules

unless_apart : (q : Rule) (known : Bool) (tree : Tree) (some others : Rules) (s : Stmt) → reports_by q (changes_in tree some s) ≡ reports_by q (changes_in tree others s)
    → reports_by q (unless_known known tree some s) ≡ reports_by q (unless_known known tree others s)
unless_apart q true tree some others s h = refl
unless_apart q false tree some others s h = h

row_apart : (q : Rule) (some others : Rules) (n : Node) (range : Range) (r : Row) → has some q ≡ has others q → reports_by q (by_row some n range r) ≡ reports_by q (by_row others n range r)
row_apart q some others n range r same =
    where_apart r.0 (where_fits n range r) q some others same
    (where_all (HasCode r.0) (fits r.1 n) (violation r.0 r.2 range ∷ []) (λ _. one_all (HasCode r.0) (violation r.0 r.2 range) refl))

in_apart : (q : Rule) (tree : Tree) (some others : Rules) (s : Stmt) → has some q ≡ has others q → reports_by q (changes_in tree some s) ≡ reports_by q (changes_in tree others s)
in_apart q tree some others s same =
    walked (λ vs ws. reports_by q vs ≡ reports_by q ws) refl (pair_apart q) (by_rows some (rows_of s.kind)) (by_rows others (rows_of s.kind)) tree s
    (λ n first last. each (λ vs ws. reports_by q vs ≡ reports_by q ws) refl (pair_apart q) (by_row some n (span_range_of tree.toks first last)) (by_row others n (span_range_of tree.toks first last)) (rows_of s.kind)
    (λ r. row_apart q some others n (span_range_of tree.toks first last) r same))

pub existing_apart : (tree : Tree) (q : Rule) (some others : Rules) → has some q ≡ has others q → reports_by q (reports_of_existing_object_compatibility tree some) ≡ reports_by q (reports_of_existing_object_compatibility tree others)
existing_apart tree q some others same =
    pieces_apart q (existing_at tree some) (existing_at tree others) (length tree.stmts)
    (λ i. unless_apart q (is_of_known tree i (stmt_at tree i)) tree some others (stmt_at tree i) (in_apart q tree some others (stmt_at tree i) same))

-- ---- no rule

and_both : (a b : Bool) → a ≡ true → b ≡ true → (a && b) ≡ true
and_both true b h k = k
and_both false b h k = absurd (cc)

-- where no rule of the pass is enabled, a row's rule is not
row_off : (rules : Rules) → is_enabled rules ≡ false → (r : Row) → IsOwned r → has rules r.0 ≡ false
unfolding all_rules
row_off rules off r o =
    elim (cases_Bool (has rules r.0)) [
      | inl holds ↦
          let at : get_or all_rules (number_of r.0) rule.UnusedIgnore ≡ r.0 = get_or_from_slice_get all_rules (number_of r.0) r.0 rule.UnusedIgnore (rule_at-number_of r.0) in
          let here : (has rules (get_or all_rules (number_of r.0) rule.UnusedIgnore) && has existing_rules (get_or all_rules (number_of r.0) rule.UnusedIgnore)) ≡ true = rw at (and_both (has rules r.0) (has existing_rules r.0) holds o) in
          let some : is_enabled rules ≡ true = list_any_at (λ q. has rules q && has existing_rules q) all_rules (number_of r.0) rule.UnusedIgnore (number_of-lt r.0) here in
          absurd (cc)
      | inr fails ↦ fails
    ]

in_off : (tree : Tree) (rules : Rules) (s : Stmt) → is_enabled rules ≡ false → changes_in tree rules s ≡ []
in_off tree rules s off =
    walked (λ vs ws. vs ≡ []) refl (λ a b c d x y i. x i ++ y i) (by_rows rules (rows_of s.kind)) (by_rows rules (rows_of s.kind)) tree s
    (λ n first last. each_of (λ vs ws. vs ≡ []) refl (λ a b c d x y i. x i ++ y i) IsOwned (by_row rules n (span_range_of tree.toks first last)) (by_row rules n (span_range_of tree.toks first last)) (rows_of s.kind) (all_owned (rows_of s.kind) (owned s.kind))
    (λ r o. ap (λ b. if b then where_fits n (span_range_of tree.toks first last) r else []) (row_off rules off r o)))

unless_off : (known : Bool) (tree : Tree) (rules : Rules) (s : Stmt) → is_enabled rules ≡ false → unless_known known tree rules s ≡ []
unless_off true tree rules s off = refl
unless_off false tree rules s off = in_off tree rules s off

-- where no rule of the pass is enabled, nothing is reported
pub existing_off : (tree : Tree) (rules : Rules) (i : ℕ) → is_enabled rules ≡ false → existing_at tree rules i ≡ []
existing_off tree rules i off = unless_off (is_of_known tree i (stmt_at tree i)) tree rules (stmt_at tree i) off
