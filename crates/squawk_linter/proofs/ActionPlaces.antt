-- No two actions of a tree begin at the same byte.
use Rattle.std.proofs.Common.{◌≡◌, ◌∙◌, ℕ, zero, suc, ◌<◌, ◌≤◌, Bool, true, false, List, [], ◌∷◌, ◌++◌, get_or, length, map, refl, ap, sym, subst, inl, inr, arith}
use Rattle.std.proofs.lemmas.Bool.{and_parts, cases_Bool, cases_order, eqb-true}
use Rattle.std.proofs.lemmas.List.{map-append}
use Rattle.std.proofs.lemmas.List.Kept.{AllPairs-from_increasing}
use Rattle.std.specs.List.{flat_map, list_any}
use Rattle.std.specs.Prelude.{AllPairs, ◌==◌, ◌&&◌}
use Rattle.sql_read.specs.sql_token.declared.token.Tok.{Tok}
use Rattle.sql_read.specs.sql_token.Token.{Text, Leads, Lexed}
use Rattle.sql_read.specs.sql_tree.declared.nodes.Action.{Action}
use Rattle.sql_read.specs.sql_tree.declared.nodes.Stmt.{Stmt}
use Rattle.sql_read.specs.sql_tree.Nodes.{actions_in, action_starts}
use Rattle.sql_read.specs.sql_tree.Range.{span_range_of, token_at}
use Rattle.sql_read.specs.sql_tree.Statement.{Tree, IsTree, no_token}
use Rattle.fix_edit.specs.law_renumber.Order.{ActionsAscend}
use Rattle.squawk_linter.specs.Headline.{adds_on, is_adding, is_alter_table, same_range}
use Rattle.squawk_linter.proofs.ActionNumbers.{action_within}
use Rattle.squawk_linter.proofs.Members.{Member, any_has, member_flat}

-- ---- tokens begin at bytes that ascend

starts_from : (t : Text) (a b : ℕ) (ks : List Tok) (j : ℕ) (d : Tok) → Leads t a ks b → j < length ks → a ≤ (get_or ks j d).start
starts_from t a b [] j d lead h = absurd (omega arith)
starts_from t a b (k ∷ ks) zero d lead h = omega (arith, lead.0)
starts_from t a b (k ∷ ks) (suc j) d lead h =
    let before = lead.1.before in
    let rest = starts_from t k.end b ks j d lead.2 (omega arith) in
    omega (arith, lead.0)

starts_ascend : (t : Text) (a b : ℕ) (ks : List Tok) (i j : ℕ) (d : Tok) → Leads t a ks b → i < j → j < length ks → (get_or ks i d).start < (get_or ks j d).start
starts_ascend t a b [] i j d lead lt h = absurd (omega arith)
starts_ascend t a b (k ∷ ks) i zero d lead lt h = absurd (omega arith)
starts_ascend t a b (k ∷ ks) zero (suc j) d lead lt h =
    let before = lead.1.before in
    let rest = starts_from t k.end b ks j d lead.2 (omega arith) in
    omega (arith, lead.0)
starts_ascend t a b (k ∷ ks) (suc i) (suc j) d lead lt h = starts_ascend t k.end b ks i j d lead.2 (omega arith) (omega arith)

one_start : (t : Text) (ks : List Tok) (i j : ℕ) (d : Tok) → Lexed t ks → i < length ks → j < length ks → (get_or ks i d).start ≡ (get_or ks j d).start → i ≡ j
one_start t ks i j d lexed h g same =
    elim (cases_order i j) [
      | inl e ↦ e
      | inr o ↦ elim o [
        | inl lt ↦ let up = starts_ascend t 0 (length t) ks i j d lexed lt g in absurd (omega arith)
        | inr gt ↦ let up = starts_ascend t 0 (length t) ks j i d lexed gt h in absurd (omega arith)
      ]
    ]

-- ---- actions whose first tokens ascend

abbrev Ascend : List ℕ → Type 0
Ascend ns = AllPairs (λ x y. x < y) ns

abbrev firsts : List Action → List ℕ
firsts actions = map (λ a. a.first) actions

after_first : (n : ℕ) (ns : List ℕ) → Ascend (n ∷ ns) → Ascend ns
after_first n ns up i j d lt h = up (suc i) (suc j) d (omega arith) (omega arith)

first_below : (x : Action) (xs : List Action) (a : Action) → Ascend (firsts (x ∷ xs)) → Member a xs → x.first < a.first
first_below x [] a up m = absurd m
first_below x (y ∷ ys) a up (inl e) =
    let step : x.first < y.first = up 0 1 0 (omega arith) (omega arith) in omega (arith, ap (λ (c : Action). c.first) e)
first_below x (y ∷ ys) a up (inr m) =
    let step : x.first < y.first = up 0 1 0 (omega arith) (omega arith) in
    let rest = first_below y ys a (after_first x.first (firsts (y ∷ ys)) up) m in omega arith

one_action : (xs : List Action) (a b : Action) → Ascend (firsts xs) → Member a xs → Member b xs → a.first ≡ b.first → a ≡ b
one_action [] a b up m n same = absurd m
one_action (x ∷ xs) a b up (inl e) (inl f) same = sym e ∙ f
one_action (x ∷ xs) a b up (inl e) (inr n) same =
    let below = first_below x xs b up n in absurd (omega (arith, ap (λ (c : Action). c.first) e))
one_action (x ∷ xs) a b up (inr m) (inl f) same =
    let below = first_below x xs a up m in absurd (omega (arith, ap (λ (c : Action). c.first) f))
one_action (x ∷ xs) a b up (inr m) (inr n) same = one_action xs a b (after_first x.first (firsts xs) up) m n same

-- ---- the actions of a tree

abbrev all_actions : List Stmt → List Action
all_actions stmts = flat_map (λ s. actions_in s.body) stmts

starts_are : (stmts : List Stmt) → flat_map (λ s. firsts (actions_in s.body)) stmts ≡ firsts (all_actions stmts)
starts_are [] = refl
starts_are (s ∷ stmts) =
    ap (λ (ns : List ℕ). firsts (actions_in s.body) ++ ns) (starts_are stmts) ∙ sym (map-append (λ (a : Action). a.first) (actions_in s.body) (all_actions stmts))

-- two actions of a tree that begin at the same byte are the same action
pub same_place : ActionsAscend → (tree : Tree) → IsTree tree → (s u : Stmt) (a b : Action) → Member s tree.stmts → Member u tree.stmts → Member a (actions_in s.body) → Member b (actions_in u.body)
    → (token_at tree.toks a.first).start ≡ (token_at tree.toks b.first).start → a ≡ b
same_place ascend tree is s u a b in_s in_u in_a in_b same =
    let up : Ascend (firsts (all_actions tree.stmts)) = subst Ascend (starts_are tree.stmts) (AllPairs-from_increasing (action_starts tree) (ascend tree is)) in
    let numbers : a.first ≡ b.first =
    one_start tree.text tree.toks a.first b.first no_token is.lexed (action_within tree is s a in_s in_a) (action_within tree is u b in_u in_b) same in
    one_action (all_actions tree.stmts) a b up (member_flat (λ (x : Stmt). actions_in x.body) s a tree.stmts in_s in_a) (member_flat (λ (x : Stmt). actions_in x.body) u b tree.stmts in_u in_b) numbers

-- an action that adds no constraint is not on the range of one that does
pub adds_elsewhere : ActionsAscend → (tree : Tree) → IsTree tree → (s : Stmt) (a : Action) → Member s tree.stmts → Member a (actions_in s.body) → is_adding a.kind ≡ false
    → list_any (adds_on tree (span_range_of tree.toks a.first a.last)) tree.stmts ≡ false
adds_elsewhere ascend tree is s a in_s in_a other =
    elim (cases_Bool (list_any (adds_on tree (span_range_of tree.toks a.first a.last)) tree.stmts)) [
      | inl found ↦ absurd (refused found)
      | inr away ↦ away
    ]
  where
    contrary : (b : Bool) → b ≡ true → b ≡ false → ⊥
    contrary true e f = cc
    contrary false e f = cc

    refused : list_any (adds_on tree (span_range_of tree.toks a.first a.last)) tree.stmts ≡ true → ⊥
    refused found =
        let stmt = any_has (adds_on tree (span_range_of tree.toks a.first a.last)) tree.stmts found in
        let u : Stmt = stmt.0 in
        let action = any_has (λ (b : Action). is_adding b.kind && same_range (span_range_of tree.toks b.first b.last) (span_range_of tree.toks a.first a.last)) (actions_in u.body) (and_parts (is_alter_table u.kind) (list_any (λ (b : Action). is_adding b.kind && same_range (span_range_of tree.toks b.first b.last) (span_range_of tree.toks a.first a.last)) (actions_in u.body)) stmt.2).1 in
        let b : Action = action.0 in
        let parts = and_parts (is_adding b.kind) (same_range (span_range_of tree.toks b.first b.last) (span_range_of tree.toks a.first a.last)) action.2 in
        let start = eqb-true (token_at tree.toks b.first).start (token_at tree.toks a.first).start
        (and_parts ((span_range_of tree.toks b.first b.last).start == (span_range_of tree.toks a.first a.last).start) ((span_range_of tree.toks b.first b.last).end == (span_range_of tree.toks a.first a.last).end) parts.1).0 in
        let same : b ≡ a = same_place ascend tree is u s b a stmt.1 in_s action.1 in_a start in
        contrary (is_adding b.kind) parts.0 (ap (λ (x : Action). is_adding x.kind) same ∙ other)
