-- The constraints that an action of an ALTER TABLE names (PostgreSQL manual, ALTER TABLE, "ADD table_constraint",
-- "VALIDATE CONSTRAINT" and "DROP CONSTRAINT").
use Rattle.std.specs.Prelude.{ℕ, Option, None, if◌then◌else◌}
use Rattle.std.specs.Option.{option_and_then, option_map}
use Rattle.lint_pass.specs.sql_token.declared.token.Span.{Span}
use Rattle.sql_tree.specs.declared.kinds.ActionKind.TheVariants as action
use Rattle.sql_tree.specs.declared.nodes.Action.{Action}
use Rattle.lint_pass.specs.lint_node.Parts.{added_constraint}
use Rattle.lint_pass.specs.lint_node.Same.{same_action}

-- the name of the constraint that an action adds
abbrev pub added_name : Action → Option ℕ
added_name a = option_and_then (λ k. k.name) (added_constraint a)

-- the name of the constraint that an action drops
abbrev pub dropped_name : Action → Option ℕ
dropped_name a = if same_action a.kind action.DropConstraint then a.name else None

abbrev pub last_name : Span → ℕ
last_name path = path.last

-- the name of the constraint that an action validates
abbrev pub validated_name : Action → Option ℕ
validated_name a = if same_action a.kind action.ValidateConstraint then option_map last_name a.path else None
