-- Where nothing is reported of validations, none is in the open transaction that added its constraint as not valid.
use Rattle.std.proofs.Common.{◌≡◌, ◌∙◌, sym, ap, refl, arith, ℕ, zero, suc, ◌<◌, ◌≤◌, ◌⊎◌, inl, inr, eq-or-lt_of_le}
use Rattle.std.proofs.Common.{Bool, true, false, ◌&&◌, ◌||◌, not, List, [], ◌∷◌, length, subst, Option, Some, None}
use Rattle.std.proofs.lemmas.Bool.{cases_lt, ltb-true, or_parts}
use Rattle.std.proofs.lemmas.Bool as bool
use Rattle.std.proofs.lemmas.Option.{slice_get_within}
use Rattle.std.proofs.lemmas.Slice.Eq.{bytes_eq-Decides}
use Rattle.std.specs.Prelude.{nat_lt, slice_get, slice_index_or, take, if◌then◌else◌}
use Rattle.std.specs.List.{list_any}
use Rattle.lock_machine.specs.sql_token.declared.token.Span.{Span}
use Rattle.lock_machine.specs.sql_tree.declared.kinds.ActionKind.TheVariants as kinds
use Rattle.lock_machine.specs.sql_tree.declared.nodes.Action.{Action}
use Rattle.lock_machine.specs.sql_tree.declared.nodes.Constraint.{Constraint}
use Rattle.lock_machine.specs.sql_tree.declared.nodes.Stmt.{Stmt}
use Rattle.lock_machine.specs.sql_tree.Statement.{Tree}
use Rattle.lock_machine.specs.lint_base.declared.settings.LinterSettings.{LinterSettings}
use Rattle.lock_machine.specs.lint_node.Parts.{added_constraint, table_actions}
use Rattle.lock_machine.specs.lint_node.Same.{same_action, same_kind}
use Rattle.lock_machine.specs.lint_transaction.Earlier.{any_below, any_between}
use Rattle.lock_machine.specs.lint_transaction.Names.{is_name, name_at}
use Rattle.lock_machine.specs.lint_transaction.Transaction.{ends_at, is_open, no_stmt, stmt_at}
use Rattle.lock_machine.proofs.of_lint_transaction.EarlierLaws.{any_below_none}
use Rattle.pass_groups.specs.pass_constraint.ConstraintMissingNotValid.{adds_at, adds_not_valid, is_added, is_known_path, name_if_not_valid, validated, validation, validation_at, validation_report, validations, validations_in}
use Rattle.law_clean.specs.Laws.{CleanAnswersValidateApart}
use Rattle.law_clean.specs.Validations.{AddsNotValid, InOneTransaction, IsAction, IsBefore, Validates}
use Rattle.law_clean.proofs.Nothing.{empty-pieces, empty_one, empty_where, not_both}
use Rattle.law_clean.proofs.Silence.{silent_at}

-- ---- tests

below_by : (p : ℕ → Bool) (n j : ℕ) → (j ≡ n) ⊎ (j < n) → p n ≡ false → (j < n → p j ≡ false) → p j ≡ false
below_by p n j (inl same) last front = ap p same ∙ last
below_by p n j (inr less) last front = front less

below_none : (p : ℕ → Bool) (n j : ℕ) → any_below p n ≡ false → j < n → p j ≡ false
below_none p zero j e l = absurd (omega (arith, l))
below_none p (suc n) j e l =
    let both = or_parts (any_below p n) (p n) e in
    below_by p n j (eq-or-lt_of_le (omega (arith, l))) both.1 (below_none p n j both.0)

abbrev or_this : {X : Type 0} → X → Option X → X
or_this x None = x
or_this x (Some y) = y

-- an element that passes is in the list, before k
any_taken : {X : Type 0} (p : X → Bool) (xs : List X) (k l : ℕ) (x : X) → l < k → slice_get xs l ≡ Some x → p x ≡ true → list_any p (take k xs) ≡ true
any_taken p [] k l x lt there pass = absurd (omega (arith, slice_get_within [] l x there))
any_taken p (y ∷ xs) zero l x lt there pass = absurd (omega (arith, lt))
any_taken p (y ∷ xs) (suc k) zero x lt there pass = bool.or_left (p y) (list_any p (take k xs)) (ap (λ o. p (or_this y o)) there ∙ pass)
any_taken p (y ∷ xs) (suc k) (suc l) x lt there pass = bool.or_right (p y) (list_any p (take k xs)) (any_taken p xs k l x (omega (arith, lt)) there pass)

any_found : {X : Type 0} (p : X → Bool) (xs : List X) (l : ℕ) (x : X) → slice_get xs l ≡ Some x → p x ≡ true → list_any p xs ≡ true
any_found p [] l x there pass = absurd (omega (arith, slice_get_within [] l x there))
any_found p (y ∷ xs) zero x there pass = bool.or_left (p y) (list_any p xs) (ap (λ o. p (or_this y o)) there ∙ pass)
any_found p (y ∷ xs) (suc l) x there pass = bool.or_right (p y) (list_any p xs) (any_found p xs l x there pass)

past_none : (ss : List Stmt) (i : ℕ) → length ss ≤ i → slice_index_or ss i no_stmt ≡ no_stmt
past_none [] i l = refl
past_none (s ∷ ss) zero l = absurd (omega (arith, l))
past_none (s ∷ ss) (suc i) l = past_none ss i (omega (arith, l))

nothing_past : (k : ℕ) (a : Action) → slice_get (table_actions no_stmt) k ≡ Some a → ⊥
unfolding same_kind
nothing_past k a there = omega (arith, slice_get_within [] k a there)

within_by : (tree : Tree) (i k : ℕ) (a : Action) → IsAction tree i k a → (i < length tree.stmts) ⊎ (length tree.stmts ≤ i) → i < length tree.stmts
within_by tree i k a there (inl l) = l
within_by tree i k a there (inr past) =
    absurd (nothing_past k a (subst (λ s. slice_get (table_actions s) k ≡ Some a) (past_none tree.stmts i past) there))

-- ---- actions

added_is : (tree : Tree) (j l : ℕ) (name : List ℕ) (adds : AddsNotValid tree j l name) → added_constraint adds.action ≡ Some adds.constraint
unfolding same_action
added_is tree j l name adds =
    ap (λ kind. if same_action kind kinds.AddConstraint then adds.action.constraint else None) adds.is_addition ∙ adds.has_constraint

validated_is : (tree : Tree) (i k : ℕ) (name : List ℕ) (v : Validates tree i k name) → validated v.action ≡ Some v.path
unfolding same_action
validated_is tree i k name v =
    ap (λ kind. if same_action kind kinds.ValidateConstraint then v.action.path else None) v.is_validation ∙ v.has_path

adds_name : (tree : Tree) (name : List ℕ) (c : Constraint) (number : ℕ) → c.not_valid ≡ true → c.name ≡ Some number → name_at tree number ≡ name
    → is_name tree name (name_if_not_valid (Some c)) ≡ true
adds_name tree name c number not_valid has_number named =
    ap (λ b. is_name tree name (if b then c.name else None)) not_valid
    ∙ (ap (is_name tree name) has_number ∙ (bytes_eq-Decides name (name_at tree number)).1 (sym named))

adds_here : (tree : Tree) (j l : ℕ) (name : List ℕ) (adds : AddsNotValid tree j l name) → adds_not_valid tree name adds.action ≡ true
adds_here tree j l name adds =
    ap (λ o. is_name tree name (name_if_not_valid o)) (added_is tree j l name adds)
    ∙ adds_name tree name adds.constraint adds.number adds.is_not_valid adds.has_name adds.is_name

-- ---- one validation

unknown : (tree : Tree) (known : List ℕ → Bool) (o : Option Action) (a : Action) (path : Span) (name : List ℕ) → o ≡ Some a → validated a ≡ Some path
    → name_at tree path.last ≡ name → validation tree known o ≡ [] → known name ≡ false
unknown tree known o a path name there is_path named e =
    let none = empty_one (is_known_path tree known (validated a)) (validation_report tree a) (sym (ap (validation tree known) there) ∙ e) in
    sym (ap known named) ∙ (sym (ap (is_known_path tree known) is_path) ∙ none)

-- no constraint of the name was added earlier
nothing_added : (tree : Tree) (settings : LinterSettings) (i k : ℕ) (name : List ℕ) → validations_in settings tree i ≡ []
    → Validates tree i k name → is_open settings.assume_in_transaction tree i ≡ true
    → (is_added settings.assume_in_transaction tree name i || list_any (adds_not_valid tree name) (take k (table_actions (stmt_at tree i)))) ≡ false
nothing_added tree settings i k name silent v is_inside =
    let assumed = settings.assume_in_transaction in
    let actions = table_actions (stmt_at tree i) in
    let known = λ (n : List ℕ). is_added assumed tree n i in
    let of_statement = empty_where (is_open assumed tree i) (validations tree known actions) is_inside silent in
    let of_action = empty-pieces (validation_at tree known actions) (length actions) of_statement k (slice_get_within actions k v.action v.is_action) in
    unknown tree (λ n. known n || list_any (adds_not_valid tree n) (take k actions)) (slice_get actions k) v.action v.path name v.is_action
    (validated_is tree i k name v) v.is_name of_action

-- ---- all validations

test_between : (b e : Bool) → (b ≡ true → e ≡ false) → (b && e) ≡ false
test_between true e h = h refl
test_between false e h = refl

added_before : (assumed : Bool) (tree : Tree) (j l i : ℕ) (name : List ℕ) → AddsNotValid tree j l name → InOneTransaction assumed tree j i → j < i
    → is_added assumed tree name i ≡ false → ⊥
added_before assumed tree j l i name adds same less none =
    let test = below_none (λ j. adds_at assumed tree name j && not (any_between (ends_at tree) j i)) i j none less in
    let found = any_found (adds_not_valid tree name) (table_actions (stmt_at tree j)) l adds.action adds.is_action (adds_here tree j l name adds) in
    let no_end = any_below_none (λ n. nat_lt j n && ends_at tree n) i (λ n l. test_between (nat_lt j n) (ends_at tree n) (λ e. same.no_end n (ltb-true j n e) l)) in
    let all : (adds_at assumed tree name j && not (any_between (ends_at tree) j i)) ≡ true = (λ x. (same.is_open_there x && found x) && not (no_end x)) in
    not_both (sym all ∙ test)

earlier : (assumed : Bool) (tree : Tree) (j l i k : ℕ) (name : List ℕ) → AddsNotValid tree j l name → IsBefore j l i k → InOneTransaction assumed tree j i
    → (is_added assumed tree name i || list_any (adds_not_valid tree name) (take k (table_actions (stmt_at tree i)))) ≡ false → ⊥
earlier assumed tree j l i k name adds (inl less) same none =
    added_before assumed tree j l i name adds same less (or_parts (is_added assumed tree name i) (list_any (adds_not_valid tree name) (take k (table_actions (stmt_at tree i)))) none).0
earlier assumed tree j l i k name adds (inr (here, less)) same none =
    let test = or_parts (is_added assumed tree name i) (list_any (adds_not_valid tree name) (take k (table_actions (stmt_at tree i)))) none in
    let there = subst (λ j. slice_get (table_actions (stmt_at tree j)) l ≡ Some adds.action) here adds.is_action in
    not_both (sym (any_taken (adds_not_valid tree name) (table_actions (stmt_at tree i)) k l adds.action less there (adds_here tree j l name adds)) ∙ test.1)

pub clean_answers_validate_apart : CleanAnswersValidateApart
clean_answers_validate_apart tree rules settings clean j l i k name adds v is_before same =
    let within = within_by tree i k v.action v.is_action (cases_lt i (length tree.stmts)) in
    earlier settings.assume_in_transaction tree j l i k name adds is_before same
    (nothing_added tree settings i k name (silent_at tree rules settings clean i within).validations v same.is_open_here)
