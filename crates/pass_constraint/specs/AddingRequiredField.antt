-- Which columns that are added a client must know of (PostgreSQL manual, ALTER TABLE, "ADD COLUMN").
use Rattle.std.specs.Prelude.{Bool, ◌&&◌, not, List, [], codes, Some, None, if◌then◌else◌}
use Rattle.std.specs.List.{list_any}
use Rattle.sql_tree.specs.declared.kinds.StmtKind.TheVariants as stmt
use Rattle.sql_tree.specs.declared.nodes.Action.{Action}
use Rattle.sql_tree.specs.declared.nodes.ConKind.{ConKind}
use Rattle.sql_tree.specs.declared.nodes.ConKind.TheVariants as con
use Rattle.sql_tree.specs.declared.nodes.Constraint.{Constraint}
use Rattle.sql_tree.specs.declared.nodes.Stmt.{Stmt}
use Rattle.sql_tree.specs.Nodes.{actions_in}
use Rattle.sql_tree.specs.Range.{span_range_of}
use Rattle.sql_tree.specs.Statement.{Tree}
use Rattle.lint_pass.specs.lint_base.declared.rule.Rule.TheVariants as rule
use Rattle.lint_pass.specs.lint_base.declared.violation.Violation.{Violation}
use Rattle.lint_pass.specs.lint_node.Parts.{new_constraints}
use Rattle.lint_pass.specs.lint_node.Same.{same_constraint, same_kind}
use Rattle.lint_pass.specs.Those.{those}

abbrev pub has : ConKind → List Constraint → Bool
has kind constraints = list_any (λ c. same_constraint c.kind kind) constraints

-- NOT NULL, and nothing that gives rows a value
abbrev pub are_required : List Constraint → Bool
are_required constraints = has con.NotNull constraints && not (has con.Default constraints) && not (has con.Generated constraints)

-- the action adds such a column
abbrev pub is_required : Action → Bool
is_required a = are_required (new_constraints a)

unfoldable pub report : Tree → Action → Violation
report tree a = record {
  code = rule.AddingRequiredField;
  message = codes "adding a new column that is `not null` and has no default value to an existing table effectively makes it required";
  text_range = span_range_of tree.toks a.first a.last;
  note = None;
  help = Some (codes "make the field nullable or add a non-volatile default");
  fix = None;
}

-- each such action of an ALTER TABLE
abbrev pub reports_of_adding_required_field : Tree → Stmt → List Violation
reports_of_adding_required_field tree s = if same_kind s.kind stmt.AlterTable then those is_required (report tree) (actions_in s.body) else []
