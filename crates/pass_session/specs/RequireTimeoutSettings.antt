-- What is reported of slow statements before which no timeout was set (PostgreSQL manual, section 20.11.1, lock_timeout and
-- statement_timeout).
use Rattle.std.specs.Prelude.{ℕ, Bool, true, false, ◌==◌, ◌&&◌, not, List, [], ◌∷◌, ◌++◌, length, codes, if◌then◌else◌, Option, Some, None}
use Rattle.std.specs.Str.{bytes_eq}
use Rattle.lint_pass.specs.text_pos.Line.{ending_bytes, line_ending_of}
use Rattle.lint_pass.specs.sql_token.declared.token.Span.{Span}
use Rattle.lint_pass.specs.sql_tree.declared.nodes.Body.{Body}
use Rattle.lint_pass.specs.sql_tree.declared.nodes.Body.TheVariants as body
use Rattle.lint_pass.specs.sql_tree.declared.nodes.Stmt.{Stmt}
use Rattle.lint_pass.specs.sql_tree.Range.{stmt_range_of}
use Rattle.lint_pass.specs.sql_tree.Statement.{Tree}
use Rattle.lint_pass.specs.lint_base.declared.rule.Rule.TheVariants as rule
use Rattle.lint_pass.specs.lint_base.declared.violation.Violation.{Violation}
use Rattle.lint_pass.specs.lint_base.Fixes.{FixValue}
use Rattle.lint_pass.specs.lint_base.RuleSets.{Rules, both_rules, no_rules, with_rule}
use Rattle.lint_lock.specs.declared.lock.LockKind.{LockKind}
use Rattle.lint_lock.specs.declared.lock.LockKind.TheVariants as lock
use Rattle.lint_lock.specs.Lock.{impact, lock_of, printed}
use Rattle.lint_lock.specs.Slow.{is_slow}
use Rattle.lint_pass.specs.lint_transaction.Earlier.{any_below, concat_below}
use Rattle.lint_pass.specs.lint_transaction.Names.{name_at}
use Rattle.lint_pass.specs.lint_transaction.Transaction.{stmt_at}
use Rattle.lint_pass.specs.Fixes.{insertion_fix}
use Rattle.lint_pass.specs.RuleTables.{where_of}
use Rattle.pass_session.specs.Tokens.{first_place}

-- ---- SET, and slow statements

-- the path of the parameter of a SET
abbrev pub parameter_by : Body → Option Span
parameter_by (body.Setting name) = name
parameter_by _ = None

-- a path of one name, which has this full text
abbrev pub is_parameter : Tree → List ℕ → Option Span → Bool
is_parameter tree name None = false
is_parameter tree name (Some path) = path.first == path.last && bytes_eq (name_at tree path.first) name

-- the statement sets the parameter of this name
abbrev pub sets : Tree → List ℕ → Stmt → Bool
sets tree name s = is_parameter tree name (parameter_by s.body)

abbrev pub sets_at : Tree → List ℕ → ℕ → Bool
sets_at tree name i = sets tree name (stmt_at tree i)

-- a statement before statement i sets the parameter
abbrev pub is_set : Tree → List ℕ → ℕ → Bool
is_set tree name i = any_below (sets_at tree name) i

abbrev pub slow_at : Tree → ℕ → Bool
slow_at tree i = is_slow (stmt_at tree i)

-- statement i is the first slow one
abbrev pub is_first_slow : Tree → ℕ → Bool
is_first_slow tree i = slow_at tree i && not (any_below (slow_at tree) i)

abbrev pub lock_timeout : List ℕ
lock_timeout = codes "lock_timeout"

abbrev pub statement_timeout : List ℕ
statement_timeout = codes "statement_timeout"

-- ---- the reports

abbrev pub is_unknown : LockKind → Bool
is_unknown lock.Unknown = true
is_unknown _ = false

-- that no lock timeout was set before a statement with this lock
abbrev pub lock_message : LockKind → List ℕ
lock_message l =
    if is_unknown l then codes "missing `set lock_timeout` before potentially slow operations"
    else codes "missing `set lock_timeout` before potentially slow " ++ printed l ++ codes " lock operations"

-- the lock, and what waits for it
abbrev pub lock_note : LockKind → Option (List ℕ)
lock_note l =
    if is_unknown l then None else Some (codes "statement requires: " ++ printed l ++ codes " lock; blocking: " ++ impact l)

-- a SET on a line of its own, before the first significant token of the text
abbrev pub setting_fix : Tree → List ℕ → List ℕ → FixValue
setting_fix tree title setting =
    insertion_fix title (setting ++ ending_bytes (line_ending_of tree.text)) (first_place tree)

unfoldable pub lock_report : Tree → Stmt → Violation
lock_report tree s = record {
  code = rule.RequireLockTimeout;
  message = lock_message (lock_of s);
  text_range = stmt_range_of tree.toks s;
  note = lock_note (lock_of s);
  help = Some (codes "configure a `lock_timeout` before this statement");
  fix = Some (setting_fix tree (codes "Add lock timeout") (codes "set lock_timeout = '1s';"));
}

unfoldable pub statement_report : Tree → Stmt → Violation
statement_report tree s = record {
  code = rule.RequireStatementTimeout;
  message = codes "missing `set statement_timeout` before potentially slow operations";
  text_range = stmt_range_of tree.toks s;
  note = None;
  help = Some (codes "configure a `statement_timeout` before this statement");
  fix = Some (setting_fix tree (codes "Add statement timeout") (codes "set statement_timeout = '5s';"));
}

abbrev pub unless : Bool → Violation → List Violation
unless is_there v = if is_there then [] else v ∷ []

-- the reports of s, by the two timeouts that were set before it
abbrev pub lock_reports : Bool → Tree → Rules → Stmt → List Violation
lock_reports was_set tree rules s = where_of rule.RequireLockTimeout (unless was_set (lock_report tree s)) rules

abbrev pub statement_reports : Bool → Tree → Rules → Stmt → List Violation
statement_reports was_set tree rules s = where_of rule.RequireStatementTimeout (unless was_set (statement_report tree s)) rules

abbrev pub both_reports : Bool → Bool → Tree → Rules → Stmt → List Violation
both_reports lock_set statement_set tree rules s =
    lock_reports lock_set tree rules s ++ statement_reports statement_set tree rules s

-- the reports of statement i, where it is the first slow one
abbrev pub timeouts_at : Tree → Rules → ℕ → List Violation
timeouts_at tree rules i =
    if is_first_slow tree i then both_reports (is_set tree lock_timeout i) (is_set tree statement_timeout i) tree rules (stmt_at tree i) else []

abbrev pub reports_of_require_timeout_settings : Tree → Rules → List Violation
reports_of_require_timeout_settings tree rules = concat_below (timeouts_at tree rules) (length tree.stmts)

abbrev pub timeout_rules : Rules
timeout_rules = both_rules (with_rule no_rules rule.RequireLockTimeout) (with_rule no_rules rule.RequireStatementTimeout)
