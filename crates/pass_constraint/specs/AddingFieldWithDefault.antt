-- Which columns that are added rewrite the table (PostgreSQL manual, ALTER TABLE, "ADD COLUMN" and Notes; section 5.4,
-- "Generated Columns").
use Rattle.std.specs.Prelude.{Bool, false, ◌&&◌, not, List, [], ◌∷◌, codes, Option, Some, None, pos, int_lt, slice_index_or, if◌then◌else◌}
use Rattle.std.specs.List.{flat_map}
use Rattle.lint_pass.specs.sql_token.declared.token.Span.{Span}
use Rattle.sql_tree.specs.declared.kinds.StmtKind.TheVariants as stmt
use Rattle.sql_tree.specs.declared.nodes.Action.{Action}
use Rattle.sql_tree.specs.declared.nodes.ConKind.TheVariants as con
use Rattle.sql_tree.specs.declared.nodes.Constraint.{Constraint}
use Rattle.sql_tree.specs.declared.nodes.Expr.{Expr}
use Rattle.sql_tree.specs.declared.nodes.Stmt.{Stmt}
use Rattle.sql_tree.specs.Nodes.{actions_in}
use Rattle.sql_tree.specs.Range.{span_range_of}
use Rattle.sql_tree.specs.Statement.{Tree}
use Rattle.lint_pass.specs.lint_base.declared.rule.Rule.TheVariants as rule
use Rattle.lint_pass.specs.lint_base.declared.settings.LinterSettings.{LinterSettings}
use Rattle.lint_pass.specs.lint_base.declared.violation.Violation.{Violation}
use Rattle.lint_pass.specs.lint_node.Parts.{new_constraints}
use Rattle.lint_pass.specs.lint_node.Same.{same_constraint, same_kind}
use Rattle.pass_constraint.specs.Volatility.{is_non_volatile_or_const}

-- Version 11 is the first one that adds a column with a default without a rewrite.
abbrev pub is_early : LinterSettings → Bool
is_early settings = int_lt (slice_index_or settings.pg_version 0 (pos 0)) (pos 11)

abbrev pub is_steady : LinterSettings → Tree → Option Expr → Bool
is_steady settings tree None = false
is_steady settings tree (Some e) = is_non_volatile_or_const settings.non_volatile tree e

-- a default of this value rewrites nothing
abbrev pub is_excused : LinterSettings → Tree → Option Expr → Bool
is_excused settings tree value = not (is_early settings) && is_steady settings tree value

-- ---- reports

-- where the value of a constraint is; the whole constraint, where it has none
abbrev pub value_span : Constraint → Option Span → Span
value_span c (Some span) = span
value_span c None = record { first = c.first; last = c.last }

unfoldable pub default_report : Tree → Span → Violation
default_report tree span = record {
  code = rule.AddingFieldWithDefault;
  message = codes "adding a column with a volatile default rewrites the table under an `access exclusive` lock";
  text_range = span_range_of tree.toks span.first span.last;
  note = Some (codes "in Postgres 11+, non-volatile defaults can be added without a rewrite");
  help = Some (codes "add the column as nullable, backfill existing rows, and add a trigger to update the column on write instead");
  fix = None;
}

unfoldable pub generated_report : Tree → Constraint → Violation
generated_report tree c = record {
  code = rule.AddingFieldWithDefault;
  message = codes "adding a generated column rewrites the table under an `access exclusive` lock";
  text_range = span_range_of tree.toks c.first c.last;
  note = None;
  help = Some (codes "add the column as nullable, backfill existing rows, and add a trigger to update the column on write instead");
  fix = None;
}

-- a default, unless it is excused, at its value
abbrev pub on_default : LinterSettings → Tree → Constraint → List Violation
on_default settings tree c = if is_excused settings tree c.expr then [] else default_report tree (value_span c c.expr_span) ∷ []

abbrev pub on_generated : Tree → Constraint → List Violation
on_generated tree c = if same_constraint c.kind con.Generated then generated_report tree c ∷ [] else []

abbrev pub on_constraint : LinterSettings → Tree → Constraint → List Violation
on_constraint settings tree c = if same_constraint c.kind con.Default then on_default settings tree c else on_generated tree c

abbrev pub on_action : LinterSettings → Tree → Action → List Violation
on_action settings tree a = flat_map (on_constraint settings tree) (new_constraints a)

-- the constraints of the columns that an ALTER TABLE adds
abbrev pub reports_of_adding_field_with_default : LinterSettings → Tree → Stmt → List Violation
reports_of_adding_field_with_default settings tree s =
    if same_kind s.kind stmt.AlterTable then flat_map (on_action settings tree) (actions_in s.body) else []
