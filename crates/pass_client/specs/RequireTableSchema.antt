-- Which names of tables are reported for the schema that they lack (PostgreSQL manual, section 5.10).
use Rattle.std.specs.Prelude.{◌==◌, Bool, ◌||◌, List, [], ◌∷◌, Some, None, codes, if◌then◌else◌}
use Rattle.std.specs.Option.{option_to_list}
use Rattle.lint_pass.specs.sql_token.declared.token.Span.{Span}
use Rattle.lint_pass.specs.sql_tree.declared.kinds.StmtKind.TheVariants as stmt
use Rattle.lint_pass.specs.sql_tree.declared.nodes.Body.{Body}
use Rattle.lint_pass.specs.sql_tree.declared.nodes.Body.TheVariants as body
use Rattle.lint_pass.specs.sql_tree.declared.nodes.Stmt.{Stmt}
use Rattle.lint_pass.specs.sql_tree.Range.{span_range_of}
use Rattle.lint_pass.specs.sql_tree.Statement.{Tree}
use Rattle.lint_pass.specs.lint_base.declared.rule.Rule.TheVariants as rule
use Rattle.lint_pass.specs.lint_base.declared.violation.Violation.{Violation}
use Rattle.lint_pass.specs.lint_node.Same.{same_kind}
use Rattle.lint_pass.specs.Those.{those}

unfoldable pub report : Tree → Span → Violation
report tree path = record {
  code = rule.RequireTableSchema;
  message = codes "table name is not schema-qualified";
  text_range = span_range_of tree.toks path.first path.last;
  note = None;
  help = Some (codes "qualify the name with its schema, e.g. `public.my_table`");
  fix = None;
}

-- a path of one name
abbrev pub is_bare : Span → Bool
is_bare path = path.first == path.last

-- the table of CREATE TABLE, but of a temporary one
abbrev pub created_by : Body → List Span
created_by (body.Table temp guarded on_commit_drop word path elems) = if temp then [] else path ∷ []
created_by _ = []

-- the table of ALTER TABLE
abbrev pub altered_by : Body → List Span
altered_by (body.Alter path actions) = option_to_list path
altered_by _ = []

-- the tables of DROP TABLE
abbrev pub dropped_by : Body → List Span
dropped_by (body.Drop word concurrently guarded paths) = paths
dropped_by _ = []

-- the tables that a statement names
abbrev pub tables_of : Stmt → List Span
tables_of s =
    if same_kind s.kind stmt.CreateTable || same_kind s.kind stmt.CreateTableAs then created_by s.body
    else (if same_kind s.kind stmt.AlterTable then altered_by s.body
    else (if same_kind s.kind stmt.DropTable then dropped_by s.body
    else []))

-- each of them that is one name
abbrev pub reports_of_require_table_schema : Tree → Stmt → List Violation
reports_of_require_table_schema tree s = those is_bare (report tree) (tables_of s)
