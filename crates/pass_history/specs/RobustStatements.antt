-- What is reported of statements other than ALTER TABLE, and all that is reported of those that can't be run again.
use Rattle.std.specs.Prelude.{ℕ, Bool, ◌&&◌, ◌||◌, not, is_some, List, [], ◌++◌, length, codes, slice_get, if◌then◌else◌, Option, Some, None}
use Rattle.std.specs.Option.{option_map}
use Rattle.lint_pass.specs.sql_token.declared.token.Span.{Span}
use Rattle.sql_tree.specs.declared.kinds.StmtKind.TheVariants as stmt
use Rattle.sql_tree.specs.declared.nodes.Body.{Body}
use Rattle.sql_tree.specs.declared.nodes.Body.TheVariants as body
use Rattle.sql_tree.specs.declared.nodes.Stmt.{Stmt}
use Rattle.sql_tree.specs.Range.{stmt_range_of}
use Rattle.sql_tree.specs.Statement.{Tree}
use Rattle.lint_pass.specs.lint_base.declared.rule.Rule.TheVariants as rule
use Rattle.lint_pass.specs.lint_base.declared.settings.LinterSettings.{LinterSettings}
use Rattle.lint_pass.specs.lint_base.declared.violation.Violation.{Violation}
use Rattle.lint_pass.specs.lint_base.RuleSets.{Rules}
use Rattle.lint_pass.specs.lint_node.Same.{same_kind}
use Rattle.lint_pass.specs.lint_transaction.Events.{each_event}
use Rattle.lint_pass.specs.lint_transaction.Transaction.{stmt_at}
use Rattle.lint_pass.specs.RuleTables.{table_of}
use Rattle.pass_history.specs.History.{altered_at, altered_below}
use Rattle.pass_history.specs.PreferRobustStmts.{after_word, before_word, exists_title, is_robust, missing_exists, missing_not_exists, not_exists_title, unless}
use Rattle.pass_history.specs.RobustActions.{report_on}

-- an index build, by the name of the index
abbrev pub index_report : Tree → Stmt → ℕ → Violation
index_report tree s name = missing_not_exists (stmt_range_of tree.toks s) (before_word tree not_exists_title (codes "if not exists ") (Some name))

-- An index without a name is given a free one by PostgreSQL, so that the build doesn't fail.
abbrev pub index_reports : Tree → Stmt → Bool → Option ℕ → List Violation
index_reports tree s quiet None = []
index_reports tree s quiet (Some name) = unless quiet (index_report tree s name)

-- a new table, by the word TABLE
abbrev pub table_report : Tree → Stmt → ℕ → Violation
table_report tree s word = missing_not_exists (stmt_range_of tree.toks s) (after_word tree not_exists_title (codes " if not exists") (Some word))

abbrev pub first_token : Span → ℕ
first_token path = path.first

-- the first token of the first path
abbrev pub first_of : List Span → Option ℕ
first_of paths = option_map first_token (slice_get paths 0)

abbrev pub index_drop : Tree → Stmt → List Span → Violation
index_drop tree s paths =
    missing_exists (stmt_range_of tree.toks s) (before_word tree exists_title (codes "if exists ") (first_of paths))

abbrev pub object_drop : Tree → Stmt → ℕ → Violation
object_drop tree s word = missing_exists (stmt_range_of tree.toks s) (after_word tree exists_title (codes " if exists") (Some word))

-- DROP INDEX; DROP TABLE and DROP TYPE, by the word TABLE or TYPE
abbrev pub drop_report : Tree → Stmt → ℕ → List Span → Violation
drop_report tree s word paths = if same_kind s.kind stmt.DropIndex then index_drop tree s paths else object_drop tree s word

-- A temporary table that is dropped with its transaction doesn't hinder a second run. A build with CONCURRENTLY is in no transaction.
abbrev pub body_reports : Tree → Bool → Stmt → Body → List Violation
body_reports tree robust s (body.Index word unique concurrently guarded name path) = index_reports tree s (guarded || (robust && not (is_some concurrently))) name
body_reports tree robust s (body.Table temp guarded on_commit_drop word path elems) =
    unless (robust || guarded || (temp && on_commit_drop) || not (same_kind s.kind stmt.CreateTable)) (table_report tree s word)
body_reports tree robust s (body.Drop word concurrently guarded paths) = unless (robust || guarded) (drop_report tree s word paths)
body_reports tree robust s _ = []

abbrev pub statement_reports : Tree → Bool → Stmt → List Violation
statement_reports tree robust s = body_reports tree robust s s.body

-- ---- all reports

abbrev pub robust_at : Tree → Bool → ℕ → List Violation
robust_at tree robust i = each_event (report_on robust tree) (altered_below tree i) (altered_at tree i) ++ statement_reports tree robust (stmt_at tree i)

-- the reports on statement i: its actions, or itself
abbrev pub robust_of : Tree → LinterSettings → ℕ → List Violation
robust_of tree settings i = robust_at tree (is_robust settings tree i) i

-- all reports, statement by statement
abbrev pub reports_of_prefer_robust_stmts : Tree → Rules → LinterSettings → List Violation
reports_of_prefer_robust_stmts tree rules settings = table_of rule.PreferRobustStmts (robust_of tree settings) rules (length tree.stmts)
