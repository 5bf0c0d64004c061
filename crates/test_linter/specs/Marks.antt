-- What the pass of these tests reports: each statement.
use Rattle.std.specs.Prelude.{codes, None}
use Rattle.squawk_cli.specs.sql_tree.declared.nodes.Stmt.{Stmt}
use Rattle.squawk_cli.specs.sql_tree.Range.{stmt_range_of}
use Rattle.squawk_cli.specs.sql_tree.Statement.{Tree}
use Rattle.squawk_cli.specs.lint_base.declared.rule.Rule.TheVariants as rule
use Rattle.squawk_cli.specs.lint_base.declared.violation.Violation.{Violation}

-- the report of a statement, whatever it is
unfoldable pub report : Tree → Stmt → Violation
report tree s = record {
  code = rule.BanDropTable;
  message = codes "mark";
  text_range = stmt_range_of tree.toks s;
  note = None;
  help = None;
  fix = None;
}
