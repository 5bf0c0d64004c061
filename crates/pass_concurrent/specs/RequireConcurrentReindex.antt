-- What is reported of indexes that are rebuilt: each REINDEX that is not concurrent, but of SYSTEM (PostgreSQL manual, REINDEX).
use Rattle.std.specs.Prelude.{ℕ, List, [], ◌∷◌, codes}
use Rattle.lint_pass.specs.sql_tree.declared.nodes.Body.{Body}
use Rattle.lint_pass.specs.sql_tree.declared.nodes.Body.TheVariants as body
use Rattle.lint_pass.specs.sql_tree.declared.nodes.Stmt.{Stmt}
use Rattle.lint_pass.specs.sql_tree.Range.{stmt_range_of}
use Rattle.lint_pass.specs.sql_tree.Statement.{Tree}
use Rattle.lint_pass.specs.lint_base.declared.rule.Rule.TheVariants as rule
use Rattle.lint_pass.specs.lint_base.declared.violation.Violation.{Violation}
use Rattle.lint_pass.specs.lint_node.Plain.{is_plain_reindex}
use Rattle.lint_pass.specs.Those.{those}
use Rattle.pass_concurrent.specs.Concurrently.{plain_report}

-- the number of the word that names the target: INDEX, TABLE, SCHEMA or DATABASE
abbrev pub target_word : Body → ℕ
target_word (body.Reindex target word concurrent valued path) = word
target_word _ = 0

unfoldable pub report : Tree → Stmt → Violation
report tree s =
    plain_report rule.RequireConcurrentReindex
    (codes "reindexing a table or index without `concurrently` blocks reads and writes")
    (codes "use `concurrently` to avoid blocking reads and writes") tree (stmt_range_of tree.toks s) (target_word s.body)

abbrev pub reports_of_require_concurrent_reindex : Tree → Stmt → List Violation
reports_of_require_concurrent_reindex tree s = those is_plain_reindex (report tree) (s ∷ [])
