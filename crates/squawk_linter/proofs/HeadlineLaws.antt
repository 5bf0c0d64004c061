-- The headline's list is in the answer of a linter.
use Rattle.std.proofs.Common.{◌≡◌, ℕ, zero, suc, ◌+◌, ◌<◌, Bool, true, false, List, [], ◌∷◌, ◌++◌, length, map, refl, ap, sym, ◌∙◌, Option, Some, None, inl, inr, take, arith}
use Rattle.std.proofs.lemmas.Bool.{eq-eqb}
use Rattle.std.proofs.lemmas.List.{append-nil, map-append}
use Rattle.std.proofs.lemmas.List.Elements.{All-head, All-tail, All-weaker, filter-append}
use Rattle.std.specs.List.{cons_option, flat_map, list_any}
use Rattle.std.specs.Prelude.{All, ◌==◌, ◌&&◌, ◌||◌, filter, slice_get, if◌then◌else◌}
use Rattle.sql_read.specs.sql_token.declared.token.Span.{Span}
use Rattle.sql_read.specs.sql_token.declared.token.Tok.{Tok}
use Rattle.sql_read.specs.text_pos.Range.{Range}
use Rattle.sql_read.specs.sql_tree.declared.kinds.StmtKind.{StmtKind}
use Rattle.sql_read.specs.sql_tree.declared.kinds.StmtKind.TheVariants.{AlterTable}
use Rattle.sql_read.specs.sql_tree.declared.kinds.ActionKind.{ActionKind}
use Rattle.sql_read.specs.sql_tree.declared.kinds.ActionKind.TheVariants.{AddConstraint, ValidateConstraint}
use Rattle.sql_read.specs.sql_tree.declared.nodes.Action.{Action}
use Rattle.sql_read.specs.sql_tree.declared.nodes.Body.{Body}
use Rattle.sql_read.specs.sql_tree.declared.nodes.Body.TheVariants as body
use Rattle.sql_read.specs.sql_tree.declared.nodes.Constraint.{Constraint}
use Rattle.sql_read.specs.sql_tree.declared.nodes.Stmt.{Stmt}
use Rattle.sql_read.specs.sql_tree.Nodes.{actions_in}
use Rattle.sql_read.specs.sql_tree.Path.{path_cuts}
use Rattle.sql_read.specs.sql_tree.Range.{span_range_of, stmt_range_of}
use Rattle.sql_read.specs.sql_tree.Statement.{Tree, IsTree}
use Rattle.fix_edit.specs.lint_base.declared.rule.Rule.{Rule}
use Rattle.fix_edit.specs.lint_base.declared.rule.Rule.TheVariants as rule
use Rattle.fix_edit.specs.lint_base.declared.settings.LinterSettings.{LinterSettings}
use Rattle.fix_edit.specs.lint_base.declared.violation.Violation.{Violation}
use Rattle.fix_edit.specs.lint_base.RuleSets.{Rules, has}
use Rattle.fix_edit.specs.lint_ignore.Comment.{ignore_in_token}
use Rattle.fix_edit.specs.lint_ignore.Found.{all_said, found_in, ignore_comments, nothing}
use Rattle.fix_edit.specs.lint_transaction.Earlier.{concat_below}
use Rattle.fix_edit.specs.lint_transaction.Transaction.{stmt_at, is_new, is_new_table, is_open, no_stmt}
use Rattle.fix_edit.specs.lint_node.Altered.{path_in}
use Rattle.fix_edit.specs.lint_node.Parts.{added_constraint, is_checked, table_actions}
use Rattle.fix_edit.specs.lint_node.Same as node
use Rattle.fix_edit.specs.lint_pass.Laws.{IsOf}
use Rattle.fix_edit.specs.lint_pass.Pieces.{no_piece}
use Rattle.law_answers.specs.pass_constraint.ConstraintMissingNotValid as constraint
use Rattle.law_answers.specs.pass_constraint.ConstraintMissingNotValid.{addition_report, validation_report}
use Rattle.fix_edit.specs.pass_concurrent.RequireConcurrentIndexCreation as build
use Rattle.fix_edit.specs.pass_concurrent.RequireConcurrentIndexCreation.{report}
use Rattle.squawk_linter.specs.Laws.{HeadlineHolds, Table}
use Rattle.squawk_linter.specs.ByStart.{by_key}
use Rattle.fix_edit.specs.law_renumber.Order.{ActionsAscend}
use Rattle.squawk_linter.specs.Headline.{Entry, HasNoIgnoreComment, addition_entry, additions_at, alteration_entries, build_at, build_entry, built, entries_of, headline_of, is_adding, is_alter_table, is_on_new, is_scanned, adds_on, is_in_headline, same_range}
use Rattle.law_answers.specs.pass_groups.OwnTable.{after_constraints, before_builds, before_constraints, group1_table, group2_table, group3_table, group4_table, group5_table, group6_table, group7_table, group8_table, own_table}
use Rattle.squawk_linter.specs.Reports.{cleared, reports_from, start_of, with_unknown_names}
use Rattle.squawk_linter.proofs.ActionPlaces.{adds_elsewhere}
use Rattle.squawk_linter.proofs.Gathering.{gathered_plain}
use Rattle.squawk_linter.proofs.Members.{Member, has_any, member_at, member_got}

-- ---- filters, maps and the order of places

never : true ≡ false → ⊥
never h = cc

filter_swap : {X : Type 0} (p q : X → Bool) (xs : List X) → filter p (filter q xs) ≡ filter q (filter p xs)
filter_swap p q [] = refl
filter_swap p q (x ∷ xs) = one p q x xs (p x) (q x) refl refl (filter_swap p q xs)
  where
    one : {X : Type 0} (p q : X → Bool) (x : X) (xs : List X) (a b : Bool) → p x ≡ a → q x ≡ b → filter p (filter q xs) ≡ filter q (filter p xs)
        → filter p (if q x then x ∷ filter q xs else filter q xs) ≡ filter q (if p x then x ∷ filter p xs else filter p xs)
    one p q x xs true true e f h = rw (e, f, e) (ap (λ ys. x ∷ ys) h)
    one p q x xs true false e f h = rw (e, f) h
    one p q x xs false true e f h = rw (e, f, e) h
    one p q x xs false false e f h = rw (e, f) h

filter_by_key : {X : Type 0} (p : X → Bool) (key : X → ℕ) (n : ℕ) (xs : List X) → filter p (by_key key n xs) ≡ by_key key n (filter p xs)
filter_by_key p key zero xs = refl
filter_by_key p key (suc n) xs =
    filter-append p (by_key key n xs) (filter (λ x. key x == n) xs) ∙ (λ i. filter_by_key p key n xs i ++ filter_swap p (λ x. key x == n) xs i)

map_filter : {X Y : Type 0} (f : X → Y) (p : Y → Bool) (xs : List X) → map f (filter (λ x. p (f x)) xs) ≡ filter p (map f xs)
map_filter f p [] = refl
map_filter f p (x ∷ xs) = by_test (p (f x)) (map_filter f p xs)
  where
    by_test : (b : Bool) → map f (filter (λ y. p (f y)) xs) ≡ filter p (map f xs) → map f (if b then x ∷ filter (λ y. p (f y)) xs else filter (λ y. p (f y)) xs) ≡ (if b then f x ∷ filter p (map f xs) else filter p (map f xs))
    by_test true h = ap (λ ys. f x ∷ ys) h
    by_test false h = h

map_by_key : {X Y : Type 0} (f : X → Y) (key : Y → ℕ) (n : ℕ) (xs : List X) → map f (by_key (λ x. key (f x)) n xs) ≡ by_key key n (map f xs)
map_by_key f key zero xs = refl
map_by_key f key (suc n) xs =
    map-append f (by_key (λ x. key (f x)) n xs) (filter (λ x. key (f x) == n) xs) ∙ (λ i. map_by_key f key n xs i ++ map_filter f (λ y. key y == n) xs i)

-- the entry of a report
abbrev entry : Violation → Entry
entry r = (r.code, r.text_range)

-- a report is of an index build or of an added constraint
abbrev is_told : Tree → Violation → Bool
is_told tree r = is_in_headline tree r.code r.text_range

-- the order of reports is that of their entries
headline_by_start : (tree : Tree) (n : ℕ) (xs : List Violation) → headline_of tree (by_key start_of n xs) ≡ by_key (λ e. e.1.start) n (headline_of tree xs)
headline_by_start tree n xs =
    ap (λ ys. map (λ r. (r.code, r.text_range)) ys) (filter_by_key (is_told tree) start_of n xs)
    ∙ map_by_key (λ r. (r.code, r.text_range)) (λ e. e.1.start) n (filter (is_told tree) xs)

-- ---- parts of a table

headline-append : (tree : Tree) (xs ys : List Violation) → headline_of tree (xs ++ ys) ≡ headline_of tree xs ++ headline_of tree ys
headline-append tree xs ys =
    ap (λ zs. map (λ r. (r.code, r.text_range)) zs) (filter-append (is_told tree) xs ys)
    ∙ map-append (λ r. (r.code, r.text_range)) (filter (is_told tree) xs) (filter (is_told tree) ys)

headline_pieces : (tree : Tree) (f : ℕ → List Violation) (g : ℕ → List Entry) (n : ℕ) → ((i : ℕ) → i < n → headline_of tree (f i) ≡ g i) → headline_of tree (concat_below f n) ≡ concat_below g n
headline_pieces tree f g zero h = refl
headline_pieces tree f g (suc n) h = headline-append tree (concat_below f n) (f n) ∙ (λ i. headline_pieces tree f g n (λ k lt. h k (omega arith)) i ++ h n (omega arith) i)

headline_flat : {A : Type 0} (tree : Tree) (f : A → List Violation) (g : A → List Entry) (xs : List A) → ((x : A) → Member x xs → headline_of tree (f x) ≡ g x) → headline_of tree (flat_map f xs) ≡ flat_map g xs
headline_flat tree f g [] h = refl
headline_flat tree f g (x ∷ xs) h = headline-append tree (f x) (flat_map f xs) ∙ (λ i. h x (inl refl) i ++ headline_flat tree f g xs (λ y m. h y (inr m)) i)

headline_where : (tree : Tree) (b : Bool) (xs : List Violation) (ys : List Entry) → headline_of tree xs ≡ ys → headline_of tree (if b then xs else []) ≡ (if b then ys else [])
headline_where tree true xs ys h = h
headline_where tree false xs ys h = refl

headline_unless : (tree : Tree) (b : Bool) (xs : List Violation) (ys : List Entry) → headline_of tree xs ≡ ys → headline_of tree (if b then [] else xs) ≡ (if b then [] else ys)
headline_unless tree true xs ys h = refl
headline_unless tree false xs ys h = h

nothing_where : (tree : Tree) (b : Bool) (xs : List Violation) → headline_of tree xs ≡ [] → headline_of tree (if b then xs else []) ≡ []
nothing_where tree true xs h = h
nothing_where tree false xs h = refl

nothing_unless : (tree : Tree) (b : Bool) → headline_of tree (if b then [] else []) ≡ []
nothing_unless tree true = refl
nothing_unless tree false = refl

nothing_in_pieces : (tree : Tree) (f : ℕ → List Violation) (n : ℕ) → ((i : ℕ) → i < n → headline_of tree (f i) ≡ []) → headline_of tree (concat_below f n) ≡ []
nothing_in_pieces tree f n h = headline_pieces tree f (λ _. []) n h ∙ no_piece n

-- the pieces of a rule that is enabled
pieces_where : (b : Bool) (f : ℕ → List Entry) (n : ℕ) → concat_below (λ i. if b then f i else []) n ≡ (if b then concat_below f n else [])
pieces_where true f n = refl
pieces_where false f n = no_piece n

-- one report
told_one : (tree : Tree) (v : Violation) → is_told tree v ≡ true → headline_of tree (v ∷ []) ≡ (v.code, v.text_range) ∷ []
told_one tree v e = λ i. map (λ r. (r.code, r.text_range)) (if e i then v ∷ [] else [])

not_told_one : (tree : Tree) (v : Violation) → is_told tree v ≡ false → headline_of tree (v ∷ []) ≡ []
not_told_one tree v e = λ i. map (λ r. (r.code, r.text_range)) (if e i then v ∷ [] else [])

none_told : (tree : Tree) (vs : List Violation) → All (λ r. is_told tree r ≡ false) vs → headline_of tree vs ≡ []
none_told tree [] h = refl
none_told tree (v ∷ vs) h =
    (λ i. map (λ r. (r.code, r.text_range)) (if All-head (λ r. is_told tree r ≡ false) v vs h i then v ∷ filter (is_told tree) vs else filter (is_told tree) vs))
    ∙ none_told tree vs (All-tail (λ r. is_told tree r ≡ false) v vs h)

-- ---- index builds

build_told : (tree : Tree) (s : Stmt) (word : ℕ) → headline_of tree (report tree s word ∷ []) ≡ (rule.RequireConcurrentIndexCreation, stmt_range_of tree.toks s) ∷ []
unfolding report
build_told tree s word = refl

builds_told : (tree : Tree) (rules : Rules) (settings : LinterSettings)
    → headline_of tree (build.reports_of_require_concurrent_index_creation tree rules settings) ≡ entries_of tree rules rule.RequireConcurrentIndexCreation (build_at settings.assume_in_transaction tree)
builds_told tree rules settings =
    headline_pieces tree (λ i. if has rules rule.RequireConcurrentIndexCreation then build.reports_on settings tree i (stmt_at tree i) else []) (λ i. if has rules rule.RequireConcurrentIndexCreation then build_at settings.assume_in_transaction tree i else []) (length tree.stmts)
    (λ i lt. headline_where tree (has rules rule.RequireConcurrentIndexCreation) (build.reports_on settings tree i (stmt_at tree i)) (build_at settings.assume_in_transaction tree i) (by_body i (stmt_at tree i) (stmt_at tree i).body))
    ∙ pieces_where (has rules rule.RequireConcurrentIndexCreation) (build_at settings.assume_in_transaction tree) (length tree.stmts)
  where
    by_body : (i : ℕ) (s : Stmt) (b : Body) → headline_of tree (build.reports_by settings tree i s b) ≡ build_entry settings.assume_in_transaction tree i s (built b)
    by_body i s (body.Index word unique None guarded name path) = headline_unless tree (is_new settings.assume_in_transaction tree (path_cuts tree.text tree.toks path) i) (report tree s word ∷ []) ((rule.RequireConcurrentIndexCreation, stmt_range_of tree.toks s) ∷ []) (build_told tree s word)
    by_body i s _ = refl

-- ---- other passes

-- a report of another rule
other_rule : (mine : Rules) → has mine rule.RequireConcurrentIndexCreation ≡ false → has mine rule.ConstraintMissingNotValid ≡ false → (tree : Tree) (c : Rule) (range : Range) → has mine c ≡ true → is_in_headline tree c range ≡ false
other_rule mine first second tree rule.RequireConcurrentIndexCreation range h = absurd (never (sym h ∙ first))
other_rule mine first second tree rule.ConstraintMissingNotValid range h = absurd (never (sym h ∙ second))
other_rule mine first second tree _ range h = refl

pub none_of : (mine rules : Rules) → has mine rule.RequireConcurrentIndexCreation ≡ false → has mine rule.ConstraintMissingNotValid ≡ false → (tree : Tree) (vs : List Violation) → All (IsOf mine rules) vs → headline_of tree vs ≡ []
none_of mine rules first second tree vs all =
    none_told tree vs (All-weaker (IsOf mine rules) (λ r. is_told tree r ≡ false) (λ v h. other_rule mine first second tree v.code v.text_range h.own) vs all)

-- ---- validations of constraints

not_adding : (k : ActionKind) → node.same_action k ValidateConstraint ≡ true → is_adding k ≡ false
unfolding node.same_action
not_adding AddConstraint e = absurd (cc)
not_adding _ e = refl

validation_not_told : ActionsAscend → (tree : Tree) → IsTree tree → (s : Stmt) (a : Action) → Member s tree.stmts → Member a (actions_in s.body) → node.same_action a.kind ValidateConstraint ≡ true
    → is_told tree (validation_report tree a) ≡ false
unfolding validation_report
validation_not_told ascend tree is s a in_s in_a validates = adds_elsewhere ascend tree is s a in_s in_a (not_adding a.kind validates)

validations_told : ActionsAscend → (tree : Tree) (rules : Rules) (settings : LinterSettings) → IsTree tree → headline_of tree (constraint.reports_of_validations tree rules settings) ≡ []
validations_told ascend tree rules settings is =
    nothing_in_pieces tree (λ i. if has rules rule.ConstraintMissingNotValid then constraint.validations_in settings tree i else []) (length tree.stmts)
    (λ i lt.
    nothing_where tree (has rules rule.ConstraintMissingNotValid) (constraint.validations_in settings tree i)
    (nothing_where tree (is_open settings.assume_in_transaction tree i) (constraint.validations tree (λ name. constraint.is_added settings.assume_in_transaction tree name i) (table_actions (stmt_at tree i)))
    (of_statement (λ name. constraint.is_added settings.assume_in_transaction tree name i) (stmt_at tree i) (member_at no_stmt tree.stmts i lt))))
  where
    of_action : (known : List ℕ → Bool) (s : Stmt) → Member s tree.stmts → (a : Action) → Member a (actions_in s.body) → headline_of tree (constraint.validation tree known (Some a)) ≡ []
    of_action known s in_s a in_a = by_kind (node.same_action a.kind ValidateConstraint) refl
      where
        by_kind : (b : Bool) → node.same_action a.kind ValidateConstraint ≡ b → headline_of tree (constraint.validation tree known (Some a)) ≡ []
        by_kind true e =
            nothing_where tree (constraint.is_known_path tree known (constraint.validated a)) (validation_report tree a ∷ []) (not_told_one tree (validation_report tree a) (validation_not_told ascend tree is s a in_s in_a e))
        by_kind false e = λ i. headline_of tree (if constraint.is_known_path tree known (if e i then a.path else None) then validation_report tree a ∷ [] else [])

    of_option : (known : List ℕ → Bool) (s : Stmt) → Member s tree.stmts → (o : Option Action) → ((a : Action) → o ≡ Some a → Member a (actions_in s.body)) → headline_of tree (constraint.validation tree known o) ≡ []
    of_option known s in_s None got = refl
    of_option known s in_s (Some a) got = of_action known s in_s a (got a refl)

    of_actions : (known : List ℕ → Bool) (s : Stmt) → Member s tree.stmts → headline_of tree (constraint.validations tree known (actions_in s.body)) ≡ []
    of_actions known s in_s =
        nothing_in_pieces tree (constraint.validation_at tree known (actions_in s.body)) (length (actions_in s.body))
        (λ k lt. of_option (λ name. known name || list_any (constraint.adds_not_valid tree name) (take k (actions_in s.body))) s in_s (slice_get (actions_in s.body) k) (member_got (actions_in s.body) k))

    of_kind : (known : List ℕ → Bool) (s : Stmt) → Member s tree.stmts → (b : Bool) → headline_of tree (constraint.validations tree known (if b then actions_in s.body else [])) ≡ []
    of_kind known s in_s true = of_actions known s in_s
    of_kind known s in_s false = refl

    of_statement : (known : List ℕ → Bool) (s : Stmt) → Member s tree.stmts → headline_of tree (constraint.validations tree known (table_actions s)) ≡ []
    of_statement known s in_s = of_kind known s in_s (node.same_kind s.kind AlterTable)

-- ---- added constraints

same_kind : (k : StmtKind) → node.same_kind k AlterTable ≡ is_alter_table k
unfolding node.same_kind
same_kind AlterTable = refl
same_kind _ = refl

same_adding : (k : ActionKind) → node.same_action k AddConstraint ≡ is_adding k
unfolding node.same_action
same_adding AddConstraint = refl
same_adding _ = refl

scanned : (b : Bool) (o : Option Constraint) → is_checked (if b then o else None) ≡ (b && is_scanned o)
scanned true None = refl
scanned true (Some c) = refl
scanned false o = refl

same_itself : (r : Range) → same_range r r ≡ true
same_itself r = let start = eq-eqb r.start r.start refl in let end = eq-eqb r.end r.end refl in λ i. start i && end i

addition_is_told : (tree : Tree) (s : Stmt) (a : Action) → Member s tree.stmts → is_alter_table s.kind ≡ true → Member a (actions_in s.body) → is_adding a.kind ≡ true → is_told tree (addition_report tree a) ≡ true
unfolding addition_report
addition_is_told tree s a in_s alters in_a adds =
    let range : Range = span_range_of tree.toks a.first a.last in
    let same : (is_adding a.kind && same_range range range) ≡ true = λ i. adds i && same_itself range i in
    let some : list_any (λ b. is_adding b.kind && same_range (span_range_of tree.toks b.first b.last) range) (actions_in s.body) ≡ true =
    has_any (λ (b : Action). is_adding b.kind && same_range (span_range_of tree.toks b.first b.last) range) a (actions_in s.body) in_a same in
    has_any (adds_on tree range) s tree.stmts in_s (λ i. alters i && some i)

report_is : (tree : Tree) (a : Action) → entry (addition_report tree a) ≡ (rule.ConstraintMissingNotValid, span_range_of tree.toks a.first a.last)
unfolding addition_report
report_is tree a = refl

addition_told : (tree : Tree) (s : Stmt) → Member s tree.stmts → is_alter_table s.kind ≡ true → (a : Action) → Member a (actions_in s.body) → headline_of tree (constraint.addition tree a) ≡ addition_entry tree a
addition_told tree s in_s alters a in_a = by_kind (is_adding a.kind) refl
  where
    test : is_checked (added_constraint a) ≡ (is_adding a.kind && is_scanned a.constraint)
    test = scanned (node.same_action a.kind AddConstraint) a.constraint ∙ ap (λ (b : Bool). b && is_scanned a.constraint) (same_adding a.kind)

    here : Entry
    here = (rule.ConstraintMissingNotValid, span_range_of tree.toks a.first a.last)

    by_kind : (b : Bool) → is_adding a.kind ≡ b → headline_of tree (constraint.addition tree a) ≡ (if is_adding a.kind && is_scanned a.constraint then (rule.ConstraintMissingNotValid, span_range_of tree.toks a.first a.last) ∷ [] else [])
    by_kind true e =
        headline_where tree (is_checked (added_constraint a)) (addition_report tree a ∷ []) ((rule.ConstraintMissingNotValid, span_range_of tree.toks a.first a.last) ∷ [])
        (told_one tree (addition_report tree a) (addition_is_told tree s a in_s alters in_a e) ∙ ap (λ (x : Entry). x ∷ []) (report_is tree a))
        ∙ (λ i. if test i then (rule.ConstraintMissingNotValid, span_range_of tree.toks a.first a.last) ∷ [] else [])
    by_kind false e =
        (λ i. headline_of tree (if test i then addition_report tree a ∷ [] else []))
        ∙ ((λ i. headline_of tree (if e i && is_scanned a.constraint then addition_report tree a ∷ [] else []))
        ∙ sym (λ i. if e i && is_scanned a.constraint then (rule.ConstraintMissingNotValid, span_range_of tree.toks a.first a.last) ∷ [] else []))

additions_told : (tree : Tree) (rules : Rules) (settings : LinterSettings)
    → headline_of tree (constraint.reports_of_additions tree rules settings) ≡ entries_of tree rules rule.ConstraintMissingNotValid (additions_at settings.assume_in_transaction tree)
additions_told tree rules settings =
    headline_pieces tree (λ i. if has rules rule.ConstraintMissingNotValid then constraint.additions_of settings tree i (stmt_at tree i) else []) (λ i. if has rules rule.ConstraintMissingNotValid then additions_at settings.assume_in_transaction tree i else []) (length tree.stmts)
    (λ i lt. headline_where tree (has rules rule.ConstraintMissingNotValid) (constraint.additions_of settings tree i (stmt_at tree i)) (additions_at settings.assume_in_transaction tree i) (of_statement i (stmt_at tree i) (member_at no_stmt tree.stmts i lt)))
    ∙ pieces_where (has rules rule.ConstraintMissingNotValid) (additions_at settings.assume_in_transaction tree) (length tree.stmts)
  where
    same_table : (i : ℕ) (o : Option Span) → is_new_table settings.assume_in_transaction tree i o ≡ is_on_new settings.assume_in_transaction tree i o
    same_table i None = refl
    same_table i (Some path) = refl

    by_body : (i : ℕ) (b : Body) → ((a : Action) → Member a (actions_in b) → headline_of tree (constraint.addition tree a) ≡ addition_entry tree a)
        → headline_of tree (if is_new_table settings.assume_in_transaction tree i (path_in b) then [] else flat_map (constraint.addition tree) (actions_in b)) ≡ alteration_entries settings.assume_in_transaction tree i b
    by_body i (body.Alter path actions) each =
        headline_unless tree (is_new_table settings.assume_in_transaction tree i path) (flat_map (constraint.addition tree) actions) (flat_map (addition_entry tree) actions) (headline_flat tree (constraint.addition tree) (addition_entry tree) actions each)
        ∙ (λ j. if same_table i path j then [] else flat_map (addition_entry tree) actions)
    by_body i _ each = refl

    by_kind : (i : ℕ) (s : Stmt) → Member s tree.stmts → (k : Bool) → is_alter_table s.kind ≡ k
        → headline_of tree (if is_new_table settings.assume_in_transaction tree i (path_in s.body) then [] else flat_map (constraint.addition tree) (if k then actions_in s.body else []))
        ≡ (if k then alteration_entries settings.assume_in_transaction tree i s.body else [])
    by_kind i s in_s true alters = by_body i s.body (addition_told tree s in_s alters)
    by_kind i s in_s false other = nothing_unless tree (is_new_table settings.assume_in_transaction tree i (path_in s.body))

    of_statement : (i : ℕ) (s : Stmt) → Member s tree.stmts → headline_of tree (constraint.additions_of settings tree i s) ≡ (if is_alter_table s.kind then alteration_entries settings.assume_in_transaction tree i s.body else [])
    of_statement i s in_s =
        (λ j. headline_of tree (if is_new_table settings.assume_in_transaction tree i (path_in s.body) then [] else flat_map (constraint.addition tree) (if same_kind s.kind j then actions_in s.body else [])))
        ∙ by_kind i s in_s (is_alter_table s.kind) refl

-- ---- the answer

no_comments : (tree : Tree) (toks : List Tok) → All (λ tok. ignore_in_token tree.text tok ≡ None) toks → ignore_comments tree.text toks ≡ []
no_comments tree [] h = refl
no_comments tree (k ∷ ks) h =
    (λ i. cons_option (All-head (λ tok. ignore_in_token tree.text tok ≡ None) k ks h i) (ignore_comments tree.text ks)) ∙ no_comments tree ks (All-tail (λ tok. ignore_in_token tree.text tok ≡ None) k ks h)

-- without ignore comments the answer is what the passes report, by place
pub plain_answer : (tree : Tree) (x : List Violation) (rules : Rules) → HasNoIgnoreComment tree → reports_from tree x rules ≡ by_key start_of (length tree.text + 1) x
unfolding reports_from
plain_answer tree x rules h =
    let none : found_in tree ≡ nothing = ap (λ cs. all_said 0 cs) (no_comments tree tree.toks h) in
    let given : with_unknown_names tree x ≡ x = (λ i. x ++ (none i).reports) ∙ append-nil x in
    ap (λ vs. by_key start_of (length tree.text + 1) vs) (gathered_plain tree (with_unknown_names tree x) rules none ∙ given)

none_left : (tree : Tree) (xs ys : List Violation) → headline_of tree xs ≡ [] → headline_of tree (xs ++ ys) ≡ headline_of tree ys
none_left tree xs ys h = headline-append tree xs ys ∙ ap (λ es. es ++ headline_of tree ys) h

none_right : (tree : Tree) (xs ys : List Violation) → headline_of tree ys ≡ [] → headline_of tree (xs ++ ys) ≡ headline_of tree xs
none_right tree xs ys h = headline-append tree xs ys ∙ (ap (λ es. headline_of tree xs ++ es) h ∙ append-nil (headline_of tree xs))

none_both : (tree : Tree) (xs ys : List Violation) → headline_of tree xs ≡ [] → headline_of tree ys ≡ [] → headline_of tree (xs ++ ys) ≡ []
none_both tree xs ys h k = none_left tree xs ys h ∙ k

-- no report of a pass is in the headline
abbrev pub IsSilent : Table → Type 0
IsSilent table = (tree : Tree) (rules : Rules) (settings : LinterSettings) → headline_of tree (table tree rules settings) ≡ []

-- the passes beside the two of the headline
pub record OthersAreSilent : Type 0 where
  pub first : IsSilent group1_table
  pub before_constraints : IsSilent before_constraints
  pub after_constraints : IsSilent after_constraints
  pub before_builds : IsSilent before_builds
  pub fourth : IsSilent group4_table
  pub fifth : IsSilent group5_table
  pub sixth : IsSilent group6_table
  pub seventh : IsSilent group7_table
  pub eighth : IsSilent group8_table

parts : ActionsAscend → OthersAreSilent → (tree : Tree) (rules : Rules) (set : LinterSettings) → IsTree tree
    → headline_of tree (own_table tree rules set)
    ≡ entries_of tree rules rule.ConstraintMissingNotValid (additions_at set.assume_in_transaction tree) ++ entries_of tree rules rule.RequireConcurrentIndexCreation (build_at set.assume_in_transaction tree)
parts ascend others tree rules set is =
    none_right tree ((g1 ++ g2) ++ (g3 ++ g4)) ((g5 ++ g6) ++ (g7 ++ g8)) later
    ∙ (headline-append tree (g1 ++ g2) (g3 ++ g4) ∙ (λ i. two i ++ three i))
  where
    g1 : List Violation
    g1 = group1_table tree rules set

    g2 : List Violation
    g2 = group2_table tree rules set

    g3 : List Violation
    g3 = group3_table tree rules set

    g4 : List Violation
    g4 = group4_table tree rules set

    g5 : List Violation
    g5 = group5_table tree rules set

    g6 : List Violation
    g6 = group6_table tree rules set

    g7 : List Violation
    g7 = group7_table tree rules set

    g8 : List Violation
    g8 = group8_table tree rules set

    later : headline_of tree ((g5 ++ g6) ++ (g7 ++ g8)) ≡ []
    later =
        none_both tree (g5 ++ g6) (g7 ++ g8) (none_both tree g5 g6 (others.fifth tree rules set) (others.sixth tree rules set))
        (none_both tree g7 g8 (others.seventh tree rules set) (others.eighth tree rules set))

    own : List Violation
    own = constraint.reports_of_constraint_missing_not_valid tree rules set

    two : headline_of tree (g1 ++ g2) ≡ entries_of tree rules rule.ConstraintMissingNotValid (additions_at set.assume_in_transaction tree)
    two =
        none_left tree g1 g2 (others.first tree rules set)
        ∙ (none_left tree (before_constraints tree rules set) (own ++ after_constraints tree rules set) (others.before_constraints tree rules set)
        ∙ (none_right tree own (after_constraints tree rules set) (others.after_constraints tree rules set)
        ∙ (none_left tree (constraint.reports_of_validations tree rules set) (constraint.reports_of_additions tree rules set) (validations_told ascend tree rules set is) ∙ additions_told tree rules set)))

    three : headline_of tree (g3 ++ g4) ≡ entries_of tree rules rule.RequireConcurrentIndexCreation (build_at set.assume_in_transaction tree)
    three =
        none_right tree g3 g4 (others.fourth tree rules set)
        ∙ (none_left tree (before_builds tree rules set) (build.reports_of_require_concurrent_index_creation tree rules set) (others.before_builds tree rules set) ∙ builds_told tree rules set)

pub headline_in : ActionsAscend → OthersAreSilent → HeadlineHolds
headline_in ascend others tree rules settings is h =
    let set : LinterSettings = cleared tree settings in
    let table : List Violation = own_table tree rules set in
    let n : ℕ = length tree.text + 1 in
    ap (headline_of tree) (plain_answer tree table rules h) ∙ (headline_by_start tree n table ∙ ap (λ es. by_key (λ e. e.1.start) n es) (parts ascend others tree rules set is))
