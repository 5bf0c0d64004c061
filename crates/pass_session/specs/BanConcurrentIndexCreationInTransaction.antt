-- What is reported of index builds with CONCURRENTLY: those in a transaction, where PostgreSQL refuses them (PostgreSQL
-- manual, CREATE INDEX, "Building Indexes Concurrently").
use Rattle.std.specs.Prelude.{ℕ, Bool, ◌&&◌, nat_lt, List, [], map, length, codes, if◌then◌else◌, Option, Some, None}
use Rattle.std.specs.Option.{option_to_list}
use Rattle.lint_pass.specs.sql_tree.declared.nodes.Body.{Body}
use Rattle.lint_pass.specs.sql_tree.declared.nodes.Body.TheVariants as body
use Rattle.lint_pass.specs.sql_tree.declared.nodes.Stmt.{Stmt}
use Rattle.lint_pass.specs.sql_tree.Range.{span_range_of}
use Rattle.lint_pass.specs.sql_tree.Statement.{Tree}
use Rattle.lint_pass.specs.lint_base.declared.rule.Rule.TheVariants as rule
use Rattle.lint_pass.specs.lint_base.declared.settings.LinterSettings.{LinterSettings}
use Rattle.lint_pass.specs.lint_base.declared.violation.Violation.{Violation}
use Rattle.lint_pass.specs.lint_base.RuleSets.{Rules}
use Rattle.lint_pass.specs.lint_transaction.Transaction.{is_open, stmt_at}
use Rattle.lint_pass.specs.RuleTables.{table_of}

-- the report of the word CONCURRENTLY of this number
unfoldable pub report : Tree → ℕ → Violation
report tree word = record {
  code = rule.BanConcurrentIndexCreationInTransaction;
  message = codes "while regular index creation can happen inside a transaction, this is not allowed when the `concurrently` option is used";
  text_range = span_range_of tree.toks word word;
  note = None;
  help = Some (codes "build the index outside any transactions");
  fix = None;
}

-- the word CONCURRENTLY of an index build
abbrev pub concurrent_word : Body → Option ℕ
concurrent_word (body.Index word unique concurrently guarded name path) = concurrently
concurrent_word _ = None

-- the report of a statement that builds an index with CONCURRENTLY
abbrev pub build_report : Tree → Stmt → List Violation
build_report tree s = map (report tree) (option_to_list (concurrent_word s.body))

-- A text of one statement is not run in a transaction block, unless one is assumed; this rule leaves it alone in any case.
abbrev pub has_more : Tree → Bool
has_more tree = nat_lt 1 (length tree.stmts)

-- the report of s, which is statement i, where a transaction is open
abbrev pub reports_on : LinterSettings → Tree → ℕ → Stmt → List Violation
reports_on settings tree i s =
    if is_open settings.assume_in_transaction tree i && has_more tree then build_report tree s else []

-- all reports, statement by statement
abbrev pub reports_of_ban_concurrent_index_creation_in_transaction : Tree → Rules → LinterSettings → List Violation
reports_of_ban_concurrent_index_creation_in_transaction tree rules settings =
    table_of rule.BanConcurrentIndexCreationInTransaction (λ i. reports_on settings tree i (stmt_at tree i)) rules (length tree.stmts)
