-- What is reported of a transaction that the text leaves open (PostgreSQL manual, BEGIN, COMMIT and ROLLBACK).
use Rattle.std.specs.Prelude.{ℕ, zero, suc, Bool, ◌&&◌, not, List, ◌++◌, map, length, codes, if◌then◌else◌, Option, Some, None}
use Rattle.std.specs.Option.{option_map, option_to_list}
use Rattle.lint_pass.specs.text_pos.Line.{ending_bytes, line_ending_of}
use Rattle.lint_pass.specs.sql_token.declared.token.Span.{Span}
use Rattle.lint_pass.specs.sql_tree.declared.nodes.Stmt.{Stmt}
use Rattle.lint_pass.specs.sql_tree.Range.{span_range_of}
use Rattle.lint_pass.specs.sql_tree.Statement.{Tree}
use Rattle.lint_pass.specs.lint_base.declared.rule.Rule.TheVariants as rule
use Rattle.lint_pass.specs.lint_base.declared.violation.Violation.{Violation}
use Rattle.lint_pass.specs.lint_base.RuleSets.{Rules, has}
use Rattle.lint_pass.specs.lint_transaction.Earlier.{any_between}
use Rattle.lint_pass.specs.lint_transaction.Transaction.{stmt_at}
use Rattle.lint_pass.specs.Blocks.{begins_at, ends_at}
use Rattle.lint_pass.specs.Fixes.{insertion_fix}
use Rattle.lint_pass.specs.RuleTables.{where_of}

-- ---- the transaction that is left open

-- BEGIN b has no COMMIT or ROLLBACK, of any form, after it and before statement i
abbrev pub is_left_open : Tree → ℕ → ℕ → Bool
is_left_open tree i b = begins_at tree b && not (any_between (ends_at tree) b i)

-- the last number below n that passes
abbrev pub last_below : (ℕ → Bool) → ℕ → Option ℕ
last_below p zero = None
last_below p (suc n) = if p n then Some n else last_below p n

abbrev pub tokens_of : Stmt → Span
tokens_of s = record { first = s.first; last = s.last }

-- the tokens of the last BEGIN without a COMMIT or ROLLBACK after it and before statement i
abbrev pub left_open : Tree → ℕ → Option Span
left_open tree i = option_map (λ b. tokens_of (stmt_at tree b)) (last_below (is_left_open tree i) i)

-- ---- the report

-- COMMIT on a line of its own
abbrev pub commit_line : Tree → List ℕ
commit_line tree = ending_bytes (line_ending_of tree.text) ++ codes "COMMIT;" ++ ending_bytes (line_ending_of tree.text)

-- the report of the BEGIN of these tokens
unfoldable pub report : Tree → Span → Violation
report tree begin = record {
  code = rule.BanUncommittedTransaction;
  message = codes "transaction never committed or rolled back";
  text_range = span_range_of tree.toks begin.first begin.last;
  note = None;
  help = Some (codes "add a `commit` or `rollback` statement to complete the transaction");
  fix = Some (insertion_fix (codes "Add `commit`") (commit_line tree) (length tree.text));
}

abbrev pub left_reports : Tree → Option Span → List Violation
left_reports tree begin = map (report tree) (option_to_list begin)

-- the report after the last statement
abbrev pub reports_of_ban_uncommitted_transaction : Tree → Rules → List Violation
reports_of_ban_uncommitted_transaction tree rules =
    where_of rule.BanUncommittedTransaction (left_reports tree (left_open tree (length tree.stmts))) rules
