-- What is reported of index builds: each CREATE INDEX without CONCURRENTLY, except on a table that an earlier statement of
-- the same open transaction creates (PostgreSQL manual, CREATE INDEX, "Building Indexes Concurrently").
use Rattle.std.specs.Prelude.{ℕ, List, [], ◌∷◌, length, codes, if◌then◌else◌, None}
use Rattle.lint_pass.specs.sql_token.declared.token.Span.{Span}
use Rattle.lint_pass.specs.sql_tree.declared.nodes.Body.{Body}
use Rattle.lint_pass.specs.sql_tree.declared.nodes.Body.TheVariants as body
use Rattle.lint_pass.specs.sql_tree.declared.nodes.Stmt.{Stmt}
use Rattle.lint_pass.specs.sql_tree.Path.{path_cuts}
use Rattle.lint_pass.specs.sql_tree.Range.{stmt_range_of}
use Rattle.lint_pass.specs.sql_tree.Statement.{Tree}
use Rattle.lint_pass.specs.lint_base.declared.rule.Rule.TheVariants as rule
use Rattle.lint_pass.specs.lint_base.declared.settings.LinterSettings.{LinterSettings}
use Rattle.lint_pass.specs.lint_base.declared.violation.Violation.{Violation}
use Rattle.lint_pass.specs.lint_base.RuleSets.{Rules}
use Rattle.lint_pass.specs.lint_transaction.Transaction.{stmt_at, is_new}
use Rattle.lint_pass.specs.RuleTables.{table_of}
use Rattle.pass_concurrent.specs.Concurrently.{plain_report}

-- the report of an index build whose word INDEX has this number
unfoldable pub report : Tree → Stmt → ℕ → Violation
report tree s word =
    plain_report rule.RequireConcurrentIndexCreation (codes "during normal index creation, table updates are blocked, but reads are still allowed")
    (codes "use `concurrently` to avoid blocking writes") tree (stmt_range_of tree.toks s) word

abbrev pub unless_new : LinterSettings → Tree → ℕ → Stmt → ℕ → Span → List Violation
unless_new settings tree i s word path =
    if is_new settings.assume_in_transaction tree (path_cuts tree.text tree.toks path) i then [] else report tree s word ∷ []

abbrev pub reports_by : LinterSettings → Tree → ℕ → Stmt → Body → List Violation
reports_by settings tree i s (body.Index word unique None guarded name path) = unless_new settings tree i s word path
reports_by settings tree i s _ = []

-- the reports of s, which is statement i
abbrev pub reports_on : LinterSettings → Tree → ℕ → Stmt → List Violation
reports_on settings tree i s = reports_by settings tree i s s.body

-- all reports, statement by statement
abbrev pub reports_of_require_concurrent_index_creation : Tree → Rules → LinterSettings → List Violation
reports_of_require_concurrent_index_creation tree rules settings =
    table_of rule.RequireConcurrentIndexCreation (λ i. reports_on settings tree i (stmt_at tree i)) rules (length tree.stmts)
