-- What is known of the columns that may be set NOT NULL, and what is reported of them, goes on from action to action.
use Rattle.std.proofs.Common.{◌≡◌, ◌∙◌, sym, ap, refl, ℕ, Bool, true, false, ◌&&◌, ◌||◌, List, [], ◌∷◌, ◌++◌, Option, Some, None}
use Rattle.std.proofs.lemmas.Grind.{flat_map-append}
use Rattle.std.proofs.lemmas.List.{append-nil}
use Rattle.std.specs.Option.{option_to_list}
use Rattle.sql_tree.specs.declared.nodes.Action.{Action}
use Rattle.lint_pass.specs.sql_token.declared.token.Span.{Span}
use Rattle.sql_tree.specs.Statement.{Tree}
use Rattle.lint_pass.specs.lint_node.Altered.{Altered, altered}
use Rattle.lint_pass.specs.lint_transaction.Events.{last_event}
use Rattle.lint_pass.proofs.of_lint_transaction.EventLaws.{any_event-next, last_event-next}
use Rattle.pass_history.specs.Constraints.{validated_name}
use Rattle.pass_history.specs.AddingNotNullField.{check_of, checks, is_named, excuses_by, excuses, last_check, altered_column, action_reports, report_on}
use Rattle.pass_history.specs.AddingNotNullFieldWalk.{IsKnowing, Knows, known_check, has_excuse, with_check}
use Rattle.pass_history.specs.declared.excused_columns.ExcusedColumns.{ExcusedColumns}
use Rattle.pass_history.specs.declared.not_null_checks.NotNullCheck.{NotNullCheck}

-- ---- what is known

checks-next : (es : List Altered) (e : Altered) → checks (es ++ e ∷ []) ≡ checks es ++ option_to_list (check_of e.table.last e.action)
checks-next es e =
    flat_map-append (λ (x : Altered). option_to_list (check_of x.table.last x.action)) es (e ∷ []) ∙ ap (λ xs. checks es ++ xs) (append-nil (option_to_list (check_of e.table.last e.action)))

last_check-next : (tree : Tree) (es : List Altered) (e : Altered) (name : List ℕ) → last_check tree (es ++ e ∷ []) name ≡ with_check tree name (check_of e.table.last e.action) (last_check tree es name)
last_check-next tree es e name = ap (last_event (is_named tree name)) (checks-next es e) ∙ by (check_of e.table.last e.action)
  where
    by : (o : Option NotNullCheck) → last_event (is_named tree name) (checks es ++ option_to_list o) ≡ with_check tree name o (last_check tree es name)
    by None = ap (last_event (is_named tree name)) (append-nil (checks es))
    by (Some k) = last_event-next (is_named tree name) (checks es) k

module _ (tree : Tree) (table : Span) (a : Action) (name : Option ℕ) (found : Option NotNullCheck) (name_is : name ≡ validated_name a) (found_is : found ≡ check_of table.last a) (old mid new : ExcusedColumns) where
  -- after one more action
  pub knowing_next : ((t c : List ℕ) → has_excuse tree mid t c ≡ (has_excuse tree old t c || excuses_by tree (known_check tree old) t c table.last name)) → mid.checks ≡ old.checks
      → new.tables ≡ mid.tables → new.columns ≡ mid.columns → ((q : List ℕ) → known_check tree new q ≡ with_check tree q found (known_check tree mid q))
      → (es : List Altered) → IsKnowing tree es old → IsKnowing tree (es ++ altered table a ∷ []) new
  knowing_next excuse kept tables columns noted es h = record {
    checked = λ q. noted q ∙ (λ i. with_check tree q (found_is i) ((kept_name q ∙ h.checked q) i)) ∙ sym (last_check-next tree es (altered table a) q);
    excused = λ t c.
        moved t c ∙ excuse t c
        ∙ (λ i. h.excused t c i || excuses_by tree (λ q. h.checked q i) t c table.last (name_is i))
        ∙ sym (any_event-next (excuses tree t c) [] es (altered table a));
  }
    where
      kept_name : (q : List ℕ) → known_check tree mid q ≡ known_check tree old q
      kept_name q = ap (λ r. known_check tree (record mid { checks = r }) q) kept

      moved : (t c : List ℕ) → has_excuse tree new t c ≡ has_excuse tree mid t c
      moved t c = λ i. has_excuse tree (record new { tables = tables i; columns = columns i }) t c

-- ---- what is reported

-- the reports by what is known are those by the events
pub reports_known : (uses : Bool) (tree : Tree) (es : List Altered) (known : ExcusedColumns) → Knows uses tree es known → (table : Span) (a : Action)
    → action_reports tree (λ t c. uses && has_excuse tree known t c) table.last a (altered_column a) ≡ report_on uses tree es (altered table a)
reports_known true tree es known h table a = λ i. action_reports tree (λ t c. (h refl).excused t c i) table.last a (altered_column a)
reports_known false tree es known h table a = refl
