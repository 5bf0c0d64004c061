-- What is reported of statements that begin or end a transaction at a wrong place (PostgreSQL manual, BEGIN, COMMIT and
-- ROLLBACK, and chapter 3.4). A transaction is open where the last BEGIN, COMMIT or ROLLBACK, of any form, is a BEGIN.
use Rattle.std.specs.Prelude.{ℕ, Bool, List, [], ◌∷◌, length, codes, if◌then◌else◌, Some, None}
use Rattle.lint_pass.specs.sql_tree.declared.nodes.Stmt.{Stmt}
use Rattle.lint_pass.specs.sql_tree.Range.{stmt_range_of}
use Rattle.lint_pass.specs.sql_tree.Statement.{Tree}
use Rattle.lint_pass.specs.lint_base.declared.rule.Rule.TheVariants as rule
use Rattle.lint_pass.specs.lint_base.declared.settings.LinterSettings.{LinterSettings}
use Rattle.lint_pass.specs.lint_base.declared.violation.Violation.{Violation}
use Rattle.lint_pass.specs.lint_transaction.Earlier.{since}
use Rattle.lint_pass.specs.lint_base.RuleSets.{Rules}
use Rattle.lint_pass.specs.lint_transaction.Transaction.{is_begin_kind, stmt_at}
use Rattle.lint_pass.specs.Blocks.{begins_at, ends_at, is_end_kind}
use Rattle.lint_pass.specs.RuleTables.{table_of}

-- the last BEGIN, COMMIT or ROLLBACK before statement i is a BEGIN
abbrev pub is_in_transaction : Tree → ℕ → Bool
is_in_transaction tree i = since (begins_at tree) (ends_at tree) i

abbrev pub report : Tree → List ℕ → List ℕ → Stmt → Violation
report tree message help s = record {
  code = rule.TransactionNesting;
  message = message;
  text_range = stmt_range_of tree.toks s;
  note = None;
  help = Some help;
  fix = None;
}

abbrev pub help_to_move : List ℕ
help_to_move = codes "move these statements to a separate migration file, or turn off the `assume-in-transaction` setting"

-- a BEGIN in the transaction of a migration tool
unfoldable pub managed_begin : Tree → Stmt → Violation
managed_begin tree s = report tree (codes "there is an existing transaction already in progress, managed by your migration tool") help_to_move s

-- a BEGIN in a transaction of the text
unfoldable pub nested_begin : Tree → Stmt → Violation
nested_begin tree s = report tree (codes "there is an existing transaction already in progress") help_to_move s

-- a COMMIT or ROLLBACK in the transaction of a migration tool
unfoldable pub managed_end : Tree → Stmt → Violation
managed_end tree s = report tree (codes "attempting to end the transaction that is managed by your migration tool") help_to_move s

-- a COMMIT or ROLLBACK without a transaction
unfoldable pub stray_end : Tree → Stmt → Violation
stray_end tree s =
    report tree (codes "there is no transaction to `commit` or `rollback`")
    (codes "`begin` a transaction at an earlier point in the migration or remove this statement") s

-- the report of a BEGIN, by whether a transaction is assumed, and whether one is open
abbrev pub begin_reports : Bool → Bool → Tree → Stmt → List Violation
begin_reports assumed in_transaction tree s =
    if assumed then managed_begin tree s ∷ [] else (if in_transaction then nested_begin tree s ∷ [] else [])

-- the same of a COMMIT or ROLLBACK
abbrev pub end_reports : Bool → Bool → Tree → Stmt → List Violation
end_reports assumed in_transaction tree s =
    if assumed then managed_end tree s ∷ [] else (if in_transaction then [] else stray_end tree s ∷ [])

abbrev pub bound_reports : Bool → Bool → Tree → Stmt → List Violation
bound_reports assumed in_transaction tree s =
    if is_begin_kind s.kind then begin_reports assumed in_transaction tree s
    else (if is_end_kind s.kind then end_reports assumed in_transaction tree s else [])

-- the report of s, which is statement i
abbrev pub reports_on : LinterSettings → Tree → ℕ → Stmt → List Violation
reports_on settings tree i s = bound_reports settings.assume_in_transaction (is_in_transaction tree i) tree s

-- all reports, statement by statement
abbrev pub reports_of_transaction_nesting : Tree → Rules → LinterSettings → List Violation
reports_of_transaction_nesting tree rules settings =
    table_of rule.TransactionNesting (λ i. reports_on settings tree i (stmt_at tree i)) rules (length tree.stmts)
