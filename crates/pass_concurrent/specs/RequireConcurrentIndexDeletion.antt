-- What is reported of indexes that are dropped: each DROP INDEX without CONCURRENTLY (PostgreSQL manual, DROP INDEX).
use Rattle.std.specs.Prelude.{ℕ, List, [], ◌∷◌, codes}
use Rattle.lint_pass.specs.sql_tree.declared.nodes.Body.{Body}
use Rattle.lint_pass.specs.sql_tree.declared.nodes.Body.TheVariants as body
use Rattle.lint_pass.specs.sql_tree.declared.nodes.Stmt.{Stmt}
use Rattle.lint_pass.specs.sql_tree.Range.{stmt_range_of}
use Rattle.lint_pass.specs.sql_tree.Statement.{Tree}
use Rattle.lint_pass.specs.lint_base.declared.rule.Rule.TheVariants as rule
use Rattle.lint_pass.specs.lint_base.declared.violation.Violation.{Violation}
use Rattle.lint_pass.specs.lint_node.Plain.{is_plain_drop}
use Rattle.lint_pass.specs.Those.{those}
use Rattle.pass_concurrent.specs.Concurrently.{plain_report}

-- the number of the word INDEX
abbrev pub index_word : Body → ℕ
index_word (body.Drop word concurrently guarded paths) = word
index_word _ = 0

unfoldable pub report : Tree → Stmt → Violation
report tree s =
    plain_report rule.RequireConcurrentIndexDeletion
    (codes "a normal `drop index` acquires an `access exclusive` lock on the table, blocking other accesses until the index drop can complete")
    (codes "drop the index `concurrently`") tree (stmt_range_of tree.toks s) (index_word s.body)

abbrev pub reports_of_require_concurrent_index_deletion : Tree → Stmt → List Violation
reports_of_require_concurrent_index_deletion tree s = those is_plain_drop (report tree) (s ∷ [])
