-- Which new values of enums are reported (PostgreSQL manual, ALTER TYPE, "ADD VALUE", and section 8.7.2).
use Rattle.std.specs.Prelude.{ℕ, Bool, not, ◌&&◌, List, [], Option, Some, None, codes, if◌then◌else◌}
use Rattle.std.specs.Option.{option_map}
use Rattle.lint_pass.specs.sql_tree.declared.kinds.ActionKind.TheVariants as action
use Rattle.lint_pass.specs.sql_tree.declared.kinds.StmtKind.TheVariants as stmt
use Rattle.lint_pass.specs.sql_tree.declared.nodes.Action.{Action}
use Rattle.lint_pass.specs.sql_tree.declared.nodes.Stmt.{Stmt}
use Rattle.lint_pass.specs.sql_tree.Nodes.{actions_in}
use Rattle.lint_pass.specs.sql_tree.Range.{span_range_of}
use Rattle.lint_pass.specs.sql_tree.Statement.{Tree}
use Rattle.lint_pass.specs.lint_base.declared.rule.Rule.TheVariants as rule
use Rattle.lint_pass.specs.lint_base.declared.violation.Violation.{Violation}
use Rattle.lint_pass.specs.lint_base.Fixes.{FixValue}
use Rattle.lint_pass.specs.lint_node.Same.{same_action, same_kind}
use Rattle.lint_pass.specs.Fixes.{insertion_fix}
use Rattle.lint_pass.specs.Those.{those}

-- ADD VALUE with neither BEFORE nor AFTER
abbrev pub adds_last : Action → Bool
adds_last a = same_action a.kind action.AddValue && not a.placed

-- a clause after the value
abbrev pub fix_after : Tree → ℕ → FixValue
fix_after tree value =
    insertion_fix (codes "Insert `before` clause") (codes " BEFORE 'existing_value'") (span_range_of tree.toks value value).end

abbrev pub fix : Tree → Action → Option FixValue
fix tree a = option_map (fix_after tree) a.name

unfoldable pub report : Tree → Action → Violation
report tree a = record {
  code = rule.RequireEnumValueOrdering;
  message = codes "`add value` without `before` or `after` appends the value to the end of the enum, which may result in unexpected ordering";
  text_range = span_range_of tree.toks a.first a.last;
  note = None;
  help = Some (codes "add `before` or `after` to specify the position of the new enum value");
  fix = fix tree a;
}

-- each of an ALTER TYPE
abbrev pub reports_of_require_enum_value_ordering : Tree → Stmt → List Violation
reports_of_require_enum_value_ordering tree s = if same_kind s.kind stmt.AlterType then those adds_last (report tree) (actions_in s.body) else []
