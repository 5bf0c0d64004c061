-- A plain text of which nothing is reported does no work on an old table.
use Rattle.std.proofs.Common.{◌≡◌, ◌∙◌, sym, ap, refl, rules, ℕ, ◌<◌, Bool, true, false, ◌&&◌, ◌||◌, not, List, [], ◌∷◌, length, Option, Some, None}
use Rattle.std.proofs.lemmas.Bool.{and_right, not-true}
use Rattle.std.proofs.lemmas.List.Elements.{All-from_recursion}
use Rattle.std.specs.List.{AllByRecursion, flat_map, list_any}
use Rattle.std.specs.Prelude.{if◌then◌else◌}
use denote.Enum.Bare.{same_true, true_same}
use Rattle.lock_machine.specs.text_pos.Range.{Range}
use Rattle.lock_machine.specs.sql_token.declared.token.Span.{Span}
use Rattle.lock_machine.specs.sql_tree.contracts.kinds.StmtKind as kinds
use Rattle.lock_machine.specs.sql_tree.declared.kinds.PieceKind.TheVariants as piece
use Rattle.lock_machine.specs.sql_tree.declared.kinds.StmtKind.{StmtKind}
use Rattle.lock_machine.specs.sql_tree.declared.kinds.StmtKind.TheVariants as stmt
use Rattle.lock_machine.specs.sql_tree.declared.nodes.Action.{Action}
use Rattle.lock_machine.specs.sql_tree.declared.nodes.Piece.{Piece}
use Rattle.lock_machine.specs.sql_tree.declared.nodes.Stmt.{Stmt}
use Rattle.lock_machine.specs.sql_tree.Nodes.{actions_in}
use Rattle.lock_machine.specs.sql_tree.Path.{path_cuts}
use Rattle.lock_machine.specs.sql_tree.Range.{span_range_of}
use Rattle.lock_machine.specs.sql_tree.Statement.{Tree, IsTree}
use Rattle.lock_machine.specs.lint_base.declared.rule.Rule.TheVariants as rule
use Rattle.lock_machine.specs.lint_base.declared.settings.LinterSettings.{LinterSettings}
use Rattle.lock_machine.proofs.of_lint_base.RuleSets.{has_default_rules}
use Rattle.lock_machine.specs.lint_node.Altered.{path_in}
use Rattle.lock_machine.specs.lint_node.Parts.{added_constraint, is_checked, new_constraints, table_actions}
use Rattle.lock_machine.specs.lint_node.Plain.{is_plain_detach, is_plain_drop, is_plain_reindex}
use Rattle.lock_machine.specs.lint_node.Same.{same_kind, same_piece}
use Rattle.lock_machine.specs.lint_pass.declared.nodes.Node.{Node}
use Rattle.lock_machine.specs.lint_pass.declared.nodes.Node.TheVariants as node
use Rattle.lock_machine.specs.lint_pass.Bans.{BanRow, ban_report, bans_on, by_row, by_rows, fits, on_rows}
use Rattle.lock_machine.specs.lint_pass.Cleared.{IsCleared}
use Rattle.lock_machine.specs.lint_pass.NodeWalk.{at_action, at_constraint, at_parts, at_piece}
use Rattle.lock_machine.specs.lint_transaction.Transaction.{is_new, is_new_table, no_stmt, stmt_at}
use Rattle.lock_machine.proofs.of_lint_transaction.EarlierLaws.{and_true}
use Rattle.lock_machine.specs.Laws.{BirthsAreNew}
use Rattle.lock_machine.specs.Machine.{before, is_young}
use Rattle.lock_machine.specs.Plain.{adds_array, is_array_default, is_unplain, is_unplain_end, is_unplain_kind, is_valued_reindex, plain, sets_schema, sets_search_path}
use Rattle.lock_machine.specs.Works.{is_assumed, is_old, works, works_at}
use Rattle.lock_machine.proofs.AssumedLaws.{assumed_where_cleared}
use Rattle.pass_groups.specs.pass_constraint.AddedConstraints as added
use Rattle.pass_groups.specs.pass_constraint.AddingFieldWithDefault as values
use Rattle.pass_groups.specs.pass_constraint.ConstraintMissingNotValid as constraint
use Rattle.pass_groups.specs.pass_concurrent.RequireConcurrentIndexDeletion as drop
use Rattle.pass_groups.specs.pass_concurrent.RequireConcurrentPartitionDetach as detach
use Rattle.pass_groups.specs.pass_concurrent.RequireConcurrentReindex as reindex
use Rattle.pass_groups.specs.pass_data_type.ChangingColumnType.{rows_of_changing_column_type}
use Rattle.law_clean.specs.Clean.{IsYoung}
use Rattle.law_clean.specs.Laws.{CleanAnswersHaveNoOldWork, DefaultRulesSuffice}
use Rattle.law_clean.proofs.ColumnWork.{quiet_constraints}
use Rattle.law_clean.proofs.Nothing.{each-pieces, each_from, each_none, empty-append, empty-flat_map, empty-those, empty_one, none_at, not_both}
use Rattle.law_clean.proofs.Silence.{IsSilentAt, silent_at}
use Rattle.law_clean.proofs.StatementWork.{IsQuietAction, IsQuietStatement, KeepsTypes, statement_young}

pub default_rules_suffice : DefaultRulesSuffice
default_rules_suffice r e = has_default_rules r ∙ ap not e

-- ---- what is known of each action of an ALTER TABLE

each_where : {X A : Type 0} (b : Bool) (f : X → List A) (xs : List X) → (if b then flat_map f xs else []) ≡ [] → AllByRecursion (λ x. f x ≡ []) (if b then xs else [])
each_where true f xs e = empty-flat_map f xs e
each_where false f xs e = tt

values_here : (settings : LinterSettings) (tree : Tree) (s : Stmt) → values.reports_of_adding_field_with_default settings tree s ≡ []
    → AllByRecursion (λ a. AllByRecursion (λ c. values.on_constraint settings tree c ≡ []) (new_constraints a)) (table_actions s)
values_here settings tree s e =
    each_from (λ a. values.on_action settings tree a ≡ []) (λ a. AllByRecursion (λ c. values.on_constraint settings tree c ≡ []) (new_constraints a))
    (λ a e. empty-flat_map (values.on_constraint settings tree) (new_constraints a) e) (table_actions s)
    (each_where (same_kind s.kind stmt.AlterTable) (values.on_action settings tree) (actions_in s.body) e)

abbrev HasNone : added.Row → Bool → Action → Type 0
HasNone row new a = AllByRecursion (λ c. added.is_of_column row new c ≡ false) (new_constraints a)

columns_here : (row : added.Row) (settings : LinterSettings) (tree : Tree) (i : ℕ) (s : Stmt) → added.added_by row settings tree i s ≡ []
    → AllByRecursion (HasNone row (is_new_table settings.assume_in_transaction tree i (path_in s.body))) (table_actions s)
columns_here row settings tree i s e =
    let new = is_new_table settings.assume_in_transaction tree i (path_in s.body) in
    each_from (λ a. added.on_action row new tree a ≡ []) (HasNone row new)
    (λ a e. empty-those (added.is_of_column row new) (added.report row tree) (new_constraints a)
    (empty-append (added.on_table row new tree (added.added a)) (added.on_column row new tree (new_constraints a)) e).1)
    (table_actions s) (each_where (same_kind s.kind stmt.AlterTable) (added.on_action row new tree) (actions_in s.body) e)

abbrev ScansNone : Bool → Action → Type 0
ScansNone new a = (is_checked (added_constraint a) && not new) ≡ false

each_any : {X : Type 0} (P : X → Type 0) → ((x : X) → P x) → (xs : List X) → AllByRecursion P xs
each_any P f [] = tt
each_any P f (x ∷ xs) = (f x, each_any P f xs)

additions_here : (tree : Tree) (new : Bool) (actions : List Action) → (if new then [] else flat_map (constraint.addition tree) actions) ≡ [] → AllByRecursion (ScansNone new) actions
additions_here tree true actions e =
    each_any (ScansNone true) (λ a. and_right (is_checked (added_constraint a)) false refl) actions
additions_here tree false actions e =
    each_from (λ a. constraint.addition tree a ≡ []) (ScansNone false)
    (λ a e. and_true (is_checked (added_constraint a)) ∙ empty_one (is_checked (added_constraint a)) (constraint.addition_report tree a) e) actions
    (empty-flat_map (constraint.addition tree) actions e)

-- ---- types of columns

no_row : (at : Node) (range : Range) (r : BanRow) → by_row rule.ChangingColumnType at range r ≡ [] → fits r.0 at ≡ false
no_row at range r e = empty_one (fits r.0 at) (ban_report rule.ChangingColumnType r.1 r.2 range) e

no_type : (kind : StmtKind) (p : Piece) (range : Range) → same_kind stmt.AlterTable kind ≡ true
    → by_rows rule.ChangingColumnType rows_of_changing_column_type (node.Piece kind p.kind p.always) range ≡ [] → same_piece piece.SetType p.kind ≡ false
no_type kind p range alters e =
    let at = node.Piece kind p.kind p.always in
    let rows = each_from (λ r. by_row rule.ChangingColumnType at range r ≡ []) (λ r. fits r.0 at ≡ false) (no_row at range) rows_of_changing_column_type
    (empty-flat_map (by_row rule.ChangingColumnType at range) rows_of_changing_column_type e)
    in
    sym (ap (λ b. b && same_piece piece.SetType p.kind) alters) ∙ rows.0

action_types : (tree : Tree) (kind : StmtKind) (a : Action) → same_kind stmt.AlterTable kind ≡ true
    → at_action (by_rows rule.ChangingColumnType rows_of_changing_column_type) tree kind a ≡ [] → KeepsTypes a
action_types tree kind a alters e =
    let at = by_rows rule.ChangingColumnType rows_of_changing_column_type in
    let parts = empty-append (at (node.Action kind a.kind) (span_range_of tree.toks a.first a.last)) (at_parts at tree kind a) e in
    let pieces = empty-append (flat_map (at_constraint at tree kind) (new_constraints a)) (flat_map (at_piece at tree kind) a.pieces) parts.1 in
    each_from (λ p. at_piece at tree kind p ≡ []) (λ p. same_piece piece.SetType p.kind ≡ false)
    (λ p e. no_type kind p (span_range_of tree.toks p.first p.last) alters e) a.pieces (empty-flat_map (at_piece at tree kind) a.pieces pieces.1)

alters_back : (kind : StmtKind) → same_kind kind stmt.AlterTable ≡ true → same_kind stmt.AlterTable kind ≡ true
unfolding same_kind
alters_back kind e = true_same kinds.the_type stmt.AlterTable kind (sym (same_true kinds.the_type (search rules) kind stmt.AlterTable e))

types_by : (tree : Tree) (s : Stmt) (b : Bool) → same_kind s.kind stmt.AlterTable ≡ b
    → flat_map (at_action (by_rows rule.ChangingColumnType rows_of_changing_column_type) tree s.kind) (actions_in s.body) ≡ []
    → AllByRecursion KeepsTypes (if b then actions_in s.body else [])
types_by tree s true alters e =
    let at = by_rows rule.ChangingColumnType rows_of_changing_column_type in
    each_from (λ a. at_action at tree s.kind a ≡ []) KeepsTypes (λ a e. action_types tree s.kind a (alters_back s.kind alters) e) (actions_in s.body)
    (empty-flat_map (at_action at tree s.kind) (actions_in s.body) e)
types_by tree s false alters e = tt

types_here : (tree : Tree) (s : Stmt) → bans_on rule.ChangingColumnType rows_of_changing_column_type tree s ≡ [] → AllByRecursion KeepsTypes (table_actions s)
types_here tree s e =
    let at = by_rows rule.ChangingColumnType rows_of_changing_column_type in
    types_by tree s (same_kind s.kind stmt.AlterTable) refl
    (empty-append (on_rows rule.ChangingColumnType rows_of_changing_column_type tree s) (flat_map (at_action at tree s.kind) (actions_in s.body)) e).1

-- ---- plain statements

abbrev HasNoArray : Action → Type 0
HasNoArray a = AllByRecursion (λ c. is_array_default c ≡ false) (new_constraints a)

last_two : (a b c d e f : Bool) → (a || b || c || d || e || f) ≡ false → (e ≡ false) × (f ≡ false)
last_two true b c d e f h = not_both h
last_two false true c d e f h = not_both h
last_two false false true d e f h = not_both h
last_two false false false true e f h = not_both h
last_two false false false false true f h = not_both h
last_two false false false false false f h = (refl, h)

plain_here : (tree : Tree) → plain tree ≡ true → (i : ℕ) → i < length tree.stmts
    → (is_valued_reindex (stmt_at tree i).body ≡ false) × (list_any adds_array (table_actions (stmt_at tree i)) ≡ false)
plain_here tree e i l =
    let s = stmt_at tree i in
    last_two (is_unplain_kind s.kind) (is_unplain_end s.body) (sets_search_path tree s.body) (sets_schema tree s) (is_valued_reindex s.body)
    (list_any adds_array (table_actions s))
    (none_at (is_unplain tree) tree.stmts (not-true (list_any (is_unplain tree) tree.stmts) e) i no_stmt l)

arrays_here : (actions : List Action) → list_any adds_array actions ≡ false → AllByRecursion HasNoArray actions
arrays_here actions e =
    each_from (λ a. adds_array a ≡ false) HasNoArray (λ a e. each_none is_array_default (new_constraints a) e) actions (each_none adds_array actions e)

-- ---- tables

-- the machine's start is that of the passes
young_alike : BirthsAreNew → (tree : Tree) → IsTree tree → (settings : LinterSettings) → IsCleared tree settings → (i : ℕ) (path : List (List ℕ))
    → is_young (before (is_assumed settings tree) tree i) path ≡ is_new settings.assume_in_transaction tree path i
young_alike births tree is settings cleared i path =
    births (is_assumed settings tree) tree is path i ∙ ap (λ assumed. is_new assumed tree path i) (assumed_where_cleared tree settings cleared)

old_alike : BirthsAreNew → (tree : Tree) → IsTree tree → (settings : LinterSettings) → IsCleared tree settings → (i : ℕ) (path : Option Span)
    → is_old tree (before (is_assumed settings tree) tree i) path ≡ not (is_new_table settings.assume_in_transaction tree i path)
old_alike births tree is settings cleared i None = refl
old_alike births tree is settings cleared i (Some path) = ap not (young_alike births tree is settings cleared i (path_cuts tree.text tree.toks path))

-- ---- statements

-- eight facts of each action are one
quiet_actions : (settings : LinterSettings) (tree : Tree) (new : Bool) (actions : List Action)
    → AllByRecursion (λ a. is_plain_detach a ≡ false) actions
    → AllByRecursion KeepsTypes actions
    → AllByRecursion (ScansNone new) actions
    → AllByRecursion (λ a. AllByRecursion (λ c. values.on_constraint settings tree c ≡ []) (new_constraints a)) actions
    → AllByRecursion (HasNone added.row_of_adding_foreign_key_constraint new) actions
    → AllByRecursion (HasNone added.row_of_adding_serial_primary_key_field new) actions
    → AllByRecursion (HasNone added.row_of_disallowed_unique_constraint new) actions
    → AllByRecursion HasNoArray actions
    → AllByRecursion (λ a. IsQuietAction settings tree new a.kind a) actions
quiet_actions settings tree new [] d t s v r p u a = tt
quiet_actions settings tree new (x ∷ xs) d t s v r p u a = (
  record {
    detachment = d.0;
    types = t.0;
    addition = s.0;
    constraints = quiet_constraints settings tree new (new_constraints x) v.0 r.0 p.0 u.0 a.0;
  },
  quiet_actions settings tree new xs d.1 t.1 s.1 v.1 r.1 p.1 u.1 a.1,
)

quiet_here : (tree : Tree) (settings : LinterSettings) (i : ℕ) → IsSilentAt tree settings i → plain tree ≡ true → i < length tree.stmts
    → IsQuietStatement settings tree i (stmt_at tree i) (is_new_table settings.assume_in_transaction tree i (path_in (stmt_at tree i).body)) (stmt_at tree i).kind (stmt_at tree i).body
quiet_here tree settings i silent is_plain l =
    let s = stmt_at tree i in
    let new = is_new_table settings.assume_in_transaction tree i (path_in s.body) in
    let arrays = plain_here tree is_plain i l in
    record {
      builds = silent.builds;
      drops = (empty-those is_plain_drop (drop.report tree) (s ∷ []) silent.drops).0;
      rebuilds = (empty-those is_plain_reindex (reindex.report tree) (s ∷ []) silent.rebuilds).0;
      values = arrays.0;
      actions =
          quiet_actions settings tree new (table_actions s)
          (empty-those is_plain_detach (detach.report tree) (table_actions s) silent.detachments)
          (types_here tree s silent.types)
          (additions_here tree new (table_actions s) silent.additions)
          (values_here settings tree s silent.values)
          (columns_here added.row_of_adding_foreign_key_constraint settings tree i s silent.foreign_keys)
          (columns_here added.row_of_adding_serial_primary_key_field settings tree i s silent.primary_keys)
          (columns_here added.row_of_disallowed_unique_constraint settings tree i s silent.uniques)
          (arrays_here (table_actions s) arrays.1);
    }

-- ---- texts

pub clean_answers_have_no_old_work : BirthsAreNew → CleanAnswersHaveNoOldWork
clean_answers_have_no_old_work births tree rules settings is cleared clean is_plain =
    All-from_recursion IsYoung (works tree settings)
    (each-pieces IsYoung (works_at settings tree) (length tree.stmts)
    (λ i l. statement_young settings tree (before (is_assumed settings tree) tree i) i (stmt_at tree i)
    (is_new_table settings.assume_in_transaction tree i (path_in (stmt_at tree i).body))
    (young_alike births tree is settings cleared i)
    (old_alike births tree is settings cleared i (path_in (stmt_at tree i).body))
    (quiet_here tree settings i (silent_at tree rules settings clean i l) is_plain l)))
