-- How what is known of added constraints goes on from statement to statement.
use Rattle.std.proofs.Common.{if◌then◌else◌, ◌≡◌, ◌∙◌, sym, ap, refl, ℕ, ◌+◌, ◌<◌, add-one, Bool, true, false, ◌&&◌, ◌||◌, not, cond, List, [], ◌∷◌, ◌++◌, length, take, get_or, slice_get, Some}
use Rattle.std.proofs.lemmas.List.{append-nil, take_more}
use Rattle.std.proofs.lemmas.List.Folds.{list_any-append}
use Rattle.std.proofs.lemmas.Option.{slice_get-get_or}
use Rattle.std.specs.List.{flat_map, list_any}
use Rattle.sql_tree.specs.declared.nodes.Action.{Action}
use Rattle.sql_tree.specs.declared.nodes.Body.{Body}
use Rattle.sql_tree.specs.declared.nodes.Body.TheVariants as body
use Rattle.sql_tree.specs.declared.nodes.Stmt.{Stmt}
use Rattle.sql_tree.specs.declared.kinds.StmtKind.TheVariants as stmt
use Rattle.sql_tree.specs.Nodes.{actions_in}
use Rattle.sql_tree.specs.Statement.{Tree}
use Rattle.lint_pass.specs.lint_node.Altered.{path_in}
use Rattle.lint_pass.specs.lint_node.Parts.{added_constraint, is_checked, table_actions}
use Rattle.lint_pass.specs.lint_node.Same.{same_kind}
use Rattle.lint_pass.specs.lint_transaction.SpanSet.{Spans}
use Rattle.lint_pass.specs.lint_transaction.Transaction.{begins, ends, chains, ends_by, is_new_table, stmt_at, ends_at}
use Rattle.lint_pass.specs.lint_transaction.declared.span_key.SpanKey.TheVariants as by
use Rattle.lint_pass.proofs.of_lint_transaction.EarlierLaws.{since-suc}
use Rattle.lint_pass.proofs.of_lint_transaction.TrackingLaws.{open_next_stmt}
use Rattle.lint_pass.specs.lint_base.declared.settings.LinterSettings.{LinterSettings}
use Rattle.lint_pass.specs.lint_base.declared.violation.Violation.{Violation}
use Rattle.lint_pass.specs.lint_base.Grown.{GrownBy}
use Rattle.lint_pass.specs.lint_base.GrownLaws.{grown_by_all, grown_by_none}
use Rattle.lint_pass.specs.lint_transaction.Earlier.{concat_below}
use Rattle.lint_pass.proofs.of_lint_transaction.Paths.{or_true}
use Rattle.lint_pass.specs.Pieces.{grown_piece, grown_in_piece}
use Rattle.pass_constraint.specs.ConstraintMissingNotValid.{adds_not_valid, adds_at, addition, additions_of, validation, validation_at, validations, validations_in}
use Rattle.pass_constraint.specs.ConstraintWalk.{has_name, IsWatching}

true≢false : true ≡ false → ⊥
true≢false h = cc

end_alters_nothing : (b : Body) → ends_by b ≡ true → actions_in b ≡ []
end_alters_nothing (body.Alter path actions) h = absurd (cc)
end_alters_nothing _ h = refl

-- the end of a transaction adds no constraint
end_adds_nothing : (tree : Tree) (name : List ℕ) (s : Stmt) → ends s ≡ true → list_any (adds_not_valid tree name) (table_actions s) ≡ false
end_adds_nothing tree name s h = by (same_kind s.kind stmt.AlterTable)
  where
    by : (b : Bool) → list_any (adds_not_valid tree name) (cond b (actions_in s.body) []) ≡ false
    by true = ap (list_any (adds_not_valid tree name)) (end_alters_nothing s.body h)
    by false = refl

kept_names : (h o a e : Bool) → (e ≡ true → a ≡ false) → ((h || (o && a)) && not e) ≡ ((o && a) || (h && not e))
kept_names true true true true k = absurd (true≢false (k refl))
kept_names true true false true k = refl
kept_names true false a true k = refl
kept_names false true true true k = absurd (true≢false (k refl))
kept_names false true false true k = refl
kept_names false false a true k = refl
kept_names true true true false k = refl
kept_names true true false false k = refl
kept_names true false a false k = refl
kept_names false true true false k = refl
kept_names false true false false k = refl
kept_names false false a false k = refl

-- after one more statement
pub watching_next : (tree : Tree) (assumed : Bool) (i : ℕ) (s : Stmt) (was_open now_open next_open : Bool) (was now next : Spans) → s ≡ stmt_at tree i
    → IsWatching tree assumed i was_open was → now_open ≡ was_open
    → ((name : List ℕ) → has_name tree now name ≡ (has_name tree was name || (was_open && list_any (adds_not_valid tree name) (table_actions s))))
    → next_open ≡ (begins s || chains s || (now_open && not (ends s))) → next.key ≡ by.LastName
    → ((name : List ℕ) → has_name tree next name ≡ (has_name tree now name && not (ends s)))
    → IsWatching tree assumed (i + 1) next_open next
watching_next tree assumed i s was_open now_open next_open was now next e h same names stays key kept = record {
  open_here = open_next_stmt tree assumed i s was_open next_open e h.open_here (stays ∙ ap (λ b. begins s || chains s || (b && not (ends s))) same);
  by_name = key;
  added_here = λ name.
      let A : Stmt → Bool = λ x. list_any (adds_not_valid tree name) (table_actions x) in
      rw add-one (kept name
      ∙ ap (λ b. b && not (ends s)) (names name)
      ∙ kept_names (has_name tree was name) was_open (A s) (ends s) (end_adds_nothing tree name s)
      ∙ (λ k. (h.open_here k && A (e k)) || (h.added_here name k && not (ends (e k))))
      ∙ sym (since-suc (adds_at assumed tree name) (ends_at tree) i));
}

-- what is reported by what is known is what the definition says
pub validations_known : (settings : LinterSettings) (tree : Tree) (i : ℕ) (s : Stmt) (is_open_here : Bool) (names : Spans) → s ≡ stmt_at tree i
    → IsWatching tree settings.assume_in_transaction i is_open_here names
    → (if is_open_here then validations tree (has_name tree names) (table_actions s) else []) ≡ validations_in settings tree i
validations_known settings tree i s is_open_here names e h =
    λ k. if h.open_here k then validations tree (λ name. h.added_here name k) (table_actions (e k)) else []

-- no action adds a constraint so that the table is scanned
none_checked : (tree : Tree) (actions : List Action) → list_any (λ a. is_checked (added_constraint a)) actions ≡ false → flat_map (addition tree) actions ≡ []
none_checked tree [] h = refl
none_checked tree (a ∷ actions) h = by (is_checked (added_constraint a)) (list_any (λ x. is_checked (added_constraint x)) actions) _ h (none_checked tree actions)
  where
    by : (b c : Bool) (v : Violation) → (b || c) ≡ false → (c ≡ false → flat_map (addition tree) actions ≡ []) → (cond b (v ∷ []) [] ++ flat_map (addition tree) actions) ≡ []
    by true c v h k = absurd (cc)
    by false c v h k = k h

-- a statement that adds no constraint so that the table is scanned
pub none_added : (settings : LinterSettings) (tree : Tree) (i : ℕ) (s : Stmt) (actions : List Action) → actions ≡ table_actions s → list_any (λ a. is_checked (added_constraint a)) actions ≡ false → (out : List Violation) → out ≡ out ++ additions_of settings tree i s
none_added settings tree i s actions is h out =
    sym (append-nil out) ∙ ap (λ xs. out ++ xs) (sym (by (is_new_table settings.assume_in_transaction tree i (path_in s.body))))
  where
    by : (b : Bool) → cond b [] (flat_map (addition tree) (table_actions s)) ≡ []
    by true = refl
    by false = ap (flat_map (addition tree)) (sym is) ∙ none_checked tree actions h

-- ---- one more action

module _ (tree : Tree) (was now : List ℕ → Bool) (actions : List Action) (i : ℕ) (a : Action) (within : i < length actions) (is : a ≡ get_or actions i a)
    (names : (name : List ℕ) → now name ≡ (was name || list_any (adds_not_valid tree name) (take i actions))) where
  moved : (w l x : Bool) → (x || (w || l)) ≡ (w || (l || (x || false)))
  moved true l x = or_true x
  moved false true true = refl
  moved false true false = refl
  moved false false true = refl
  moved false false false = refl

  pub names_next : (next : List ℕ → Bool) → ((name : List ℕ) → next name ≡ (adds_not_valid tree name a || now name)) → (name : List ℕ) → next name ≡ (was name || list_any (adds_not_valid tree name) (take (i + 1) actions))
  names_next next h name =
      let adds = adds_not_valid tree name in
      h name
      ∙ ap (λ b. adds a || b) (names name)
      ∙ moved (was name) (list_any adds (take i actions)) (adds a)
      ∙ ap (λ b. was name || b) (sym (list_any-append adds (take i actions) (a ∷ [])))
      ∙ ap (λ xs. was name || list_any adds xs) (sym (take_more actions i a within ∙ ap (λ x. take i actions ++ x ∷ []) (sym is)))

  here : validation tree now (Some a) ≡ validation_at tree was actions i
  here =
      ap (validation tree now) (sym (slice_get-get_or actions i a within ∙ ap Some (sym is)))
      ∙ (λ k. validation tree (λ name. names name k) (slice_get actions i))

  pub told_next : (old mid new : List Violation) → mid ≡ old ++ concat_below (validation_at tree was actions) i → new ≡ mid ++ validation tree now (Some a) → new ≡ old ++ concat_below (validation_at tree was actions) (i + 1)
  told_next old mid new m n = grown_piece (validation_at tree was actions) old mid new i m (n ∙ ap (λ xs. mid ++ xs) here)

  -- the reports up to this action are a prefix of all
  pub validations_grown : (old mid new : List Violation) → mid ≡ old ++ concat_below (validation_at tree was actions) i → new ≡ mid ++ validation tree now (Some a) → GrownBy old new (validations tree was actions)
  validations_grown old mid new m n =
      grown_in_piece (validation_at tree was actions) old mid new i (length actions) within m (grown_by_all mid new (validation_at tree was actions i) (n ∙ ap (λ xs. mid ++ xs) here))

-- the reports before an action are a prefix of all
pub validations_refused : (tree : Tree) (was : List ℕ → Bool) (actions : List Action) (i : ℕ) (old mid new : List Violation) → i < length actions → mid ≡ old ++ concat_below (validation_at tree was actions) i → new ≡ mid → GrownBy old new (validations tree was actions)
validations_refused tree was actions i old mid new l m n =
    grown_in_piece (validation_at tree was actions) old mid new i (length actions) l m (grown_by_none mid new (validation_at tree was actions i) n)
