-- Both directions: what is reported of a text with the word is what was reported without it, moved, but for the statement that
-- has the word now.
use Rattle.std.specs.Prelude.{◌≡◌, ℕ, ◌==◌, if◌then◌else◌, List, [], ◌∷◌, ◌++◌, map, length, Option}
use Rattle.law_edit_inserts.specs.sql_tree.declared.nodes.Stmt.{Stmt}
use Rattle.law_edit_inserts.specs.sql_tree.Range.{token_at}
use Rattle.law_edit_inserts.specs.sql_tree.Statement.{Tree, IsTree}
use Rattle.law_edit_inserts.specs.law_edit_tokens.Edits.{concurrently_made}
use Rattle.law_edit_inserts.specs.law_edit_tokens.Exchange.{made_text}
use Rattle.law_edit_inserts.specs.sql_token.declared.token.Span.{Span}
use Rattle.law_edit_inserts.specs.sql_tree.declared.nodes.Action.{Action}
use Rattle.law_edit_inserts.specs.Built.{concurrently_tree, detached_stmt, concurrent_stmt, DetachTakesConcurrently, TakesConcurrently}
use Rattle.pass_concurrent.specs.lint_base.declared.rule.Rule.{Rule}
use Rattle.pass_concurrent.specs.lint_base.declared.rule.Rule.TheVariants as rule
use Rattle.pass_concurrent.specs.lint_base.declared.settings.LinterSettings.{LinterSettings}
use Rattle.pass_concurrent.specs.lint_base.declared.violation.Violation.{Violation}
use Rattle.pass_concurrent.specs.lint_base.RuleSets.{Rules}
use Rattle.pass_concurrent.specs.lint_transaction.Earlier.{concat_below}
use Rattle.pass_concurrent.specs.lint_transaction.Transaction.{stmt_at}
use Rattle.pass_concurrent.specs.lint_pass.RuleTables.{enabled_reports}
use Rattle.pass_concurrent.specs.lint_pass.Those.{those}
use Rattle.pass_concurrent.specs.lint_node.Plain.{is_plain_detach}
use Rattle.pass_concurrent.specs.RequireConcurrentPartitionDetach.{reports_of_require_concurrent_partition_detach, report}
use Rattle.law_fixes.specs.Mended.{Reports, detached, table_by}
use Rattle.law_fixes.specs.Moved.{violation_moved}

-- where the word is inserted, and how many bytes it has
abbrev pub place_of : Tree → ℕ → ℕ
place_of tree n = (token_at tree.toks n).end

abbrev pub inserted : ℕ
inserted = length (made_text concurrently_made)

-- the old reports but those of statement k, moved
abbrev pub but_for : ℕ → Rule → Reports → Tree → ℕ → Rules → LinterSettings → ℕ → List Violation
but_for k code reports tree n rules settings i =
    if i == k then [] else map (violation_moved (place_of tree n) inserted) (enabled_reports code (λ j. reports settings tree j (stmt_at tree j)) rules i)

-- The statement with the mark is not reported, and all other reports are the old ones, moved.
abbrev pub TableStays : Rule → Reports → Type 0
TableStays code reports =
    (tree : Tree) (before : List Stmt) (s : Stmt) (after : List Stmt) (n : ℕ) → IsTree tree → tree.stmts ≡ before ++ s ∷ after → TakesConcurrently n s →
    (rules : Rules) (settings : LinterSettings) →
    table_by code reports (concurrently_tree tree n before (concurrent_stmt n s) after) rules settings
    ≡ concat_below (but_for (length before) code reports tree n rules settings) (length tree.stmts)

-- the reports on statement j, where those on statement k are only on these actions
abbrev pub but_action : ℕ → List Action → Tree → ℕ → List Violation
but_action k actions tree j = if j == k then those is_plain_detach (report tree) actions else reports_of_require_concurrent_partition_detach tree (stmt_at tree j)

-- So it is of partitions that are detached: the action with the mark is not reported, and all other reports are the old ones, moved.
abbrev pub DetachesStay : Type 0
DetachesStay =
    (tree : Tree) (before : List Stmt) (s : Stmt) (after : List Stmt) (n : ℕ) (path : Option Span) (earlier : List Action) (b : Action) (later : List Action) →
    IsTree tree → tree.stmts ≡ before ++ s ∷ after → DetachTakesConcurrently n s path earlier b later → (rules : Rules) (settings : LinterSettings) →
    detached (concurrently_tree tree n before (detached_stmt n s path earlier b later) after) rules settings
    ≡ concat_below (λ i. map (violation_moved (place_of tree n) inserted) (enabled_reports rule.RequireConcurrentPartitionDetach (but_action (length before) (earlier ++ later) tree) rules i))
    (length tree.stmts)
