-- Columns that an ALTER TABLE adds (PostgreSQL manual, ALTER TABLE, CREATE TABLE, column_constraint, and section 8.14, "JSON Types").
use Rattle.std.specs.Prelude.{ℕ, ◌+◌, Bool, false, not, ◌&&◌, List, [], ◌∷◌, codes, filter, is_some, Option, Some, None, if◌then◌else◌}
use Rattle.std.specs.Option.{option_and_then, option_map}
use Rattle.lint_ignore.specs.sql_keyword.declared.words.TheConstants.Keyword as keyword
use Rattle.lint_ignore.specs.sql_token.declared.token.Span.{Span}
use Rattle.lint_ignore.specs.sql_tree.declared.nodes.Action.{Action}
use Rattle.lint_ignore.specs.sql_tree.declared.nodes.ColType.{ColType}
use Rattle.lint_ignore.specs.sql_tree.declared.nodes.ConKind.TheVariants as con
use Rattle.lint_ignore.specs.sql_tree.declared.nodes.Constraint.{Constraint}
use Rattle.lint_ignore.specs.sql_tree.Statement.{Tree}
use Rattle.lint_node.specs.ColumnTypes.{added_type}
use Rattle.lint_node.specs.Same.{same_constraint}
use Rattle.lint_transaction.specs.Names.{is_one_name}
use Rattle.hazard_find.specs.Look.{after_optional, after_words, begins, token_from}

-- ---- checks

-- NOT ENFORCED follows the bracket that closes a condition, perhaps with NO INHERIT between them
abbrev pub is_excused_after : Tree → ℕ → ℕ → Bool
is_excused_after tree n close =
    is_some (after_words tree n (keyword.NOT ∷ keyword.ENFORCED ∷ []) (after_optional tree n (keyword.NO ∷ keyword.INHERIT ∷ []) (close + 1)))

abbrev pub is_excused_by : Tree → ℕ → Option ℕ → Bool
is_excused_by tree n None = false
is_excused_by tree n (Some close) = is_excused_after tree n close

-- the constraint is not enforced, by the tokens of its condition
unfoldable pub is_excused : Tree → ℕ → Option Span → Bool
is_excused tree n None = false
is_excused tree n (Some condition) = is_excused_by tree n (token_from tree n (condition.last + 1))

-- a CHECK that is enforced
unfoldable pub is_scanned : Tree → Constraint → Bool
is_scanned tree c = same_constraint c.kind con.Check && not (is_excused tree (c.last + 1) c.expr_span)

-- ---- types

abbrev pub is_json : Tree → ColType → Bool
is_json tree t = not t.array && is_one_name tree t.inner (codes "json")

abbrev pub json_in : Tree → ColType → Option Span
json_in tree t = if is_json tree t then Some t.whole else None

-- the type json, and no array of it, of the column that an action adds
unfoldable pub added_json : Tree → Action → Option Span
added_json tree a = option_and_then (json_in tree) (added_type a)
