-- Which constraints that an ALTER TABLE adds are reported, and with which words (PostgreSQL manual, ALTER TABLE, "ADD
-- table_constraint", "ADD table_constraint_using_index" and "ADD COLUMN").
use Rattle.std.specs.Prelude.{ℕ, Bool, true, false, ◌&&◌, not, List, [], ◌++◌, codes, Some, None, option_to_list, if◌then◌else◌}
use Rattle.std.specs.List.{flat_map}
use Rattle.sql_tree.specs.declared.kinds.StmtKind.TheVariants as stmt
use Rattle.sql_tree.specs.declared.nodes.Action.{Action}
use Rattle.sql_tree.specs.declared.nodes.ConKind.{ConKind}
use Rattle.sql_tree.specs.declared.nodes.ConKind.TheVariants as con
use Rattle.sql_tree.specs.declared.nodes.Constraint.{Constraint}
use Rattle.sql_tree.specs.declared.nodes.Stmt.{Stmt}
use Rattle.sql_tree.specs.Nodes.{actions_in}
use Rattle.sql_tree.specs.Range.{span_range_of}
use Rattle.sql_tree.specs.Statement.{Tree}
use Rattle.lint_pass.specs.lint_base.declared.rule.Rule.{Rule}
use Rattle.lint_pass.specs.lint_base.declared.rule.Rule.TheVariants as rule
use Rattle.lint_pass.specs.lint_base.declared.settings.LinterSettings.{LinterSettings}
use Rattle.lint_pass.specs.lint_base.declared.violation.Violation.{Violation}
use Rattle.lint_pass.specs.lint_node.Altered.{path_in}
use Rattle.lint_pass.specs.lint_node.Parts.{added_constraint, new_constraints}
use Rattle.lint_pass.specs.lint_node.Same.{same_constraint, same_kind}
use Rattle.lint_pass.specs.lint_transaction.Transaction.{is_new_table}
use Rattle.lint_pass.specs.Those.{those}
use Rattle.pass_constraint.specs.declared.constraint_rows.ConstraintRow.{ConstraintRow}
use Rattle.pass_constraint.specs.declared.constraint_rows.Excuse.{Excuse}
use Rattle.pass_constraint.specs.declared.constraint_rows.Excuse.TheVariants as excuse

-- ---- rows

-- what a rule reports
pub record Row : Type 0 where
  pub code : Rule
  -- the kind of a constraint that is added to a table, and what excuses it
  pub of_table : ConKind
  pub excuse : Excuse
  -- the kind of a constraint of a column that is added, and whether a new table excuses it
  pub of_column : ConKind
  pub is_excused_on_new : Bool
  pub message : List ℕ
  pub help : List ℕ

-- a row whose texts are lent
abbrev pub lent : ConstraintRow → Row
lent r = record {
  code = r.code;
  of_table = r.of_table;
  excuse = r.excuse;
  of_column = r.of_column;
  is_excused_on_new = r.is_excused_on_new;
  message = r.message.now;
  help = r.help.now;
}

-- FOREIGN KEY, but not with NOT VALID, and each REFERENCES of a new column
abbrev pub row_of_adding_foreign_key_constraint : Row
row_of_adding_foreign_key_constraint = record {
  code = rule.AddingForeignKeyConstraint;
  of_table = con.ForeignKey;
  excuse = excuse.NotValid;
  of_column = con.References;
  is_excused_on_new = false;
  message = codes "adding a foreign key constraint requires a table scan and a `share row exclusive` lock on both tables, which blocks writes to each table";
  help = codes "add `not valid` to the constraint in one transaction and then `validate` the constraint in a separate transaction";
}

-- PRIMARY KEY, but not by USING INDEX, and of a new column, both on a table that is not new
abbrev pub row_of_adding_serial_primary_key_field : Row
row_of_adding_serial_primary_key_field = record {
  code = rule.AddingSerialPrimaryKeyField;
  of_table = con.PrimaryKey;
  excuse = excuse.ByIndex;
  of_column = con.PrimaryKey;
  is_excused_on_new = true;
  message = codes "adding a primary key constraint requires an `access exclusive` lock that will block all reads and writes to the table while the primary key index is built";
  help = codes "add the `primary key` constraint `using` an index";
}

-- UNIQUE, but not by USING INDEX, and each one of a new column
abbrev pub row_of_disallowed_unique_constraint : Row
row_of_disallowed_unique_constraint = record {
  code = rule.DisallowedUniqueConstraint;
  of_table = con.Unique;
  excuse = excuse.ByIndex;
  of_column = con.Unique;
  is_excused_on_new = false;
  message = codes "adding a `unique` constraint requires an `access exclusive` lock which blocks reads and writes to the table while the index is built";
  help = codes "create an index `concurrently` and create the constraint using the index";
}

-- ---- which constraints are reported

-- the constraint has the mark that excuses it
abbrev pub is_excused_by : Excuse → Constraint → Bool
is_excused_by excuse.NotValid c = c.not_valid
is_excused_by excuse.ByIndex c = c.by_index

-- as a constraint that is added to a table, which is new or not
abbrev pub is_of_table : Row → Bool → Constraint → Bool
is_of_table row new c = same_constraint c.kind row.of_table && not (is_excused_by row.excuse c) && not new

-- As a constraint of a column that is added to a table, which is new or not. Its marks excuse nothing.
abbrev pub is_of_column : Row → Bool → Constraint → Bool
is_of_column row new c = same_constraint c.kind row.of_column && not (row.is_excused_on_new && new)

-- ---- what is reported

unfoldable pub report : Row → Tree → Constraint → Violation
report row tree c = record {
  code = row.code;
  message = row.message;
  text_range = span_range_of tree.toks c.first c.last;
  note = None;
  help = Some row.help;
  fix = None;
}

-- the constraint that an ADD of a constraint adds
abbrev pub added : Action → List Constraint
added a = option_to_list (added_constraint a)

abbrev pub on_table : Row → Bool → Tree → List Constraint → List Violation
on_table row new tree constraints = those (is_of_table row new) (report row tree) constraints

abbrev pub on_column : Row → Bool → Tree → List Constraint → List Violation
on_column row new tree constraints = those (is_of_column row new) (report row tree) constraints

abbrev pub on_action : Row → Bool → Tree → Action → List Violation
on_action row new tree a = on_table row new tree (added a) ++ on_column row new tree (new_constraints a)

-- the constraints that s, which is statement i, adds
abbrev pub added_by : Row → LinterSettings → Tree → ℕ → Stmt → List Violation
added_by row settings tree i s =
    if same_kind s.kind stmt.AlterTable
    then flat_map (on_action row (is_new_table settings.assume_in_transaction tree i (path_in s.body)) tree) (actions_in s.body)
    else []
