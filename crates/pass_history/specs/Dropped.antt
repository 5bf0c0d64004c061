-- Constraints that were dropped, and whether they were added again (PostgreSQL manual, ALTER TABLE, "DROP CONSTRAINT").
use Rattle.std.specs.Prelude.{◌≡◌, ℕ, Bool, true, false, List, [], ◌∷◌, Option, Some, None, if◌then◌else◌}
use Rattle.std.specs.List.{list_any}
use Rattle.std.specs.Option.{option_map}
use Rattle.sql_tree.specs.Statement.{Tree}
use Rattle.lint_pass.specs.lint_node.Altered.{Altered}
use Rattle.lint_pass.specs.lint_transaction.Events.{since_event}
use Rattle.lint_pass.specs.lint_transaction.Names.{is_name}
use Rattle.lint_pass.specs.lint_transaction.SpanMap.{Values, get_span}
use Rattle.lint_pass.specs.lint_transaction.declared.span_key.SpanKey.TheVariants as by
use Rattle.pass_history.specs.Constraints.{added_name, dropped_name}

abbrev pub drops : Tree → List ℕ → Altered → Bool
drops tree name e = is_name tree name (dropped_name e.action)

abbrev pub adds : Tree → List ℕ → Altered → Bool
adds tree name e = is_name tree name (added_name e.action)

-- one of the events es drops a constraint of this name
abbrev pub was_dropped : Tree → List Altered → List ℕ → Bool
was_dropped tree es name = list_any (drops tree name) es

-- and none after it adds one
abbrev pub is_gone : Tree → List Altered → List ℕ → Bool
is_gone tree es name = since_event (drops tree name) (adds tree name) es

-- ---- what a walk knows

-- whether the constraint is gone, where it was dropped
abbrev pub known_drop : Tree → Values Bool → List ℕ → Option Bool
known_drop tree map name = get_span tree map (name ∷ [])

abbrev pub after_add : Tree → List ℕ → Option ℕ → Option Bool → Option Bool
after_add tree name number known = if is_name tree name number then option_map (λ _. false) known else known

abbrev pub after_drop : Tree → List ℕ → Option ℕ → Option Bool → Option Bool
after_drop tree name number known = if is_name tree name number then Some true else known

pub record IsDropping (tree : Tree) (es : List Altered) (map : Values Bool) : Type 0 where
  pub by_name : map.key ≡ by.LastName
  pub known : (name : List ℕ) → known_drop tree map name ≡ (if was_dropped tree es name then Some (is_gone tree es name) else None)
