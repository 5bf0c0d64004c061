-- How far the fix of a report can be trusted, by its rule and by the statement that it changes.
--
-- A fix is safe where the text does the same on every server, whoever else is connected, and however the file is sent. Of all rules that holds of
-- one. What is offered beside it is unsafe: it may fail, wait, or change what the text means, so somebody looks at it. Where it always fails, or leaves
-- what a hazard reports, it is not offered.
use Rattle.std.specs.Prelude.{ℕ, ◌-◌, pos, Bool, true, false, not, ◌&&◌, ◌||◌, List, length, take, drop, codes, nat_eq, nat_le, nat_lt, slice_get, is_some, Option, Some, None, if◌then◌else◌}
use Rattle.std.specs.Int.Signed.{le_z}
use Rattle.std.specs.List.{list_all, starts_with}
use Rattle.lint_report.specs.text_pos.Range.{Range}
use Rattle.lint_ignore.specs.sql_token.declared.token.Span.{Span}
use Rattle.lint_ignore.specs.sql_token.Token.{Text, text_of}
use Rattle.lint_ignore.specs.sql_tree.declared.nodes.Body.{Body}
use Rattle.lint_ignore.specs.sql_tree.declared.nodes.Body.TheVariants as body
use Rattle.lint_ignore.specs.sql_tree.declared.nodes.ReindexTarget.{ReindexTarget}
use Rattle.lint_ignore.specs.sql_tree.declared.nodes.ReindexTarget.TheVariants as target
use Rattle.lint_ignore.specs.sql_tree.declared.nodes.Stmt.{Stmt}
use Rattle.lint_ignore.specs.sql_tree.Range.{token_at}
use Rattle.lint_ignore.specs.sql_tree.Statement.{Tree}
use Rattle.lint_report.specs.lint_base.declared.rule.Rule.{Rule}
use Rattle.lint_report.specs.lint_base.declared.rule.Rule.TheVariants as rule
use Rattle.lint_report.specs.lint_base.declared.settings.LinterSettings.{LinterSettings}
use Rattle.lint_report.specs.lint_base.declared.violation.Violation.{Violation}
use Rattle.lint_report.specs.declared.fix_class.FixClass.{FixClass}
use Rattle.lint_report.specs.declared.fix_class.FixClass.TheVariants.{Safe, Unsafe, Template}
use Rattle.lint_transaction.specs.Transaction.{stmt_at}
use Rattle.statement_place.specs.Statements.{number_behind}
use Rattle.fix_class.specs.declared.known.Known.{Known}
use Rattle.fix_class.specs.Known.{known_at}
use Rattle.fix_class.specs.Words.{says}

-- PostgreSQL is of this major version, or of a later one.
abbrev pub has_version : Known → ℕ → Bool
has_version known first = le_z (pos first) known.major

abbrev pub class_unless : Bool → FixClass → Option FixClass
class_unless refused class = if refused then None else Some class

-- ---- CONCURRENTLY

-- PostgreSQL refuses it in a transaction, and a timeout may break it off half done.
abbrev pub is_out_of_place : Known → Bool
is_out_of_place known = known.is_inside || known.is_limited

abbrev pub is_guarded_by : Body → Bool
is_guarded_by (body.Index word unique concurrently guarded name path) = guarded
is_guarded_by _ = false

-- CREATE INDEX: IF NOT EXISTS would take the invalid index that a failed concurrent build left for the wanted one, and a partitioned table,
-- for which ONLY is, takes no CONCURRENTLY.
abbrev pub is_no_build : Known → Tree → Stmt → Bool
is_no_build known tree s = is_out_of_place known || is_guarded_by s.body || known.is_on_partitioned || says tree (codes "only") s

abbrev pub drops_many_by : Body → Bool
drops_many_by (body.Drop word concurrently guarded paths) = nat_lt 1 (length paths)
drops_many_by _ = false

-- DROP INDEX takes one index, and no CASCADE.
abbrev pub is_no_drop : Known → Tree → Stmt → Bool
is_no_drop known tree s = is_out_of_place known || drops_many_by s.body || says tree (codes "cascade") s

-- the names that begin so are those of PostgreSQL itself
unfoldable pub is_own_name : List ℕ → Bool
is_own_name text = starts_with nat_eq text (codes "pg_") || starts_with nat_eq text (codes "PG_") || starts_with nat_eq text (codes "\"pg_")

abbrev pub is_own_path : Tree → Option Span → Bool
is_own_path tree None = false
is_own_path tree (Some path) = is_own_name (text_of tree.text (token_at tree.toks path.first))

abbrev pub is_system : ReindexTarget → Bool
is_system target.System = true
is_system _ = false

abbrev pub is_of_system_by : Tree → Body → Bool
is_of_system_by tree (body.Reindex aim word concurrent valued path) = is_system aim || is_own_path tree path
is_of_system_by tree _ = false

-- REINDEX: from 12 on, and not for the system catalogs.
abbrev pub is_no_rebuild : Known → Tree → Stmt → Bool
is_no_rebuild known tree s = is_out_of_place known || not (has_version known 12) || is_of_system_by tree s.body

-- DETACH PARTITION: from 14 on.
abbrev pub is_no_detach : Known → Bool
is_no_detach known = known.is_inside || not (has_version known 14)

-- ---- all

abbrev pub is_concurrent_build_by : Body → Bool
is_concurrent_build_by (body.Index word unique concurrently guarded name path) = is_some concurrently
is_concurrent_build_by _ = false

-- The class by rule; without one the fix is not offered. A timeout would break off what is done CONCURRENTLY, and a statement beside one that runs
-- outside of transactions alone makes a transaction of a text that is sent as one query. IF NOT EXISTS keeps an invalid index.
unfoldable pub class_by : Rule → Known → Tree → Stmt → Option FixClass
class_by rule.IdentifierTooLong known tree s = Some Safe
class_by rule.RequireConcurrentIndexCreation known tree s = class_unless (is_no_build known tree s) Unsafe
class_by rule.RequireConcurrentIndexDeletion known tree s = class_unless (is_no_drop known tree s) Unsafe
class_by rule.RequireConcurrentReindex known tree s = class_unless (is_no_rebuild known tree s) Unsafe
class_by rule.RequireConcurrentPartitionDetach known tree s = class_unless (is_no_detach known) Unsafe
class_by rule.PreferRepack known tree s = class_unless known.is_inside Unsafe
class_by rule.RequireLockTimeout known tree s = class_unless known.has_outside_work Unsafe
class_by rule.RequireStatementTimeout known tree s = class_unless known.has_outside_work Unsafe
class_by rule.PreferRobustStmts known tree s = class_unless (is_concurrent_build_by s.body) Unsafe
class_by rule.PreferIdentity known tree s = class_unless (not (has_version known 10)) Unsafe
class_by rule.RequireEnumValueOrdering known tree s = Some Template
class_by _ known tree s = Some Unsafe

-- ---- the class of a report

-- the class of the fix of a report on statement i
abbrev pub class_at : LinterSettings → Tree → Rule → ℕ → Option FixClass
class_at settings tree code i =
    if nat_lt i (length tree.stmts) then class_by code (known_at settings tree i) tree (stmt_at tree i) else None

abbrev pub is_byte : ℕ → Option ℕ → Bool
is_byte byte None = false
is_byte byte (Some b) = nat_eq b byte

-- a colon, a question mark or a double quote
abbrev pub is_mark : Option ℕ → Bool
is_mark found = is_byte 58 found || is_byte 63 found || is_byte 34 found

-- The byte before this place is such a mark: what begins here is the name of a variable of psql (`:name`, `:{?name}`), or goes on from a name.
abbrev pub is_behind_mark : Text → ℕ → Bool
is_behind_mark text start = nat_lt 0 start && is_mark (slice_get text (start - 1))

-- such a mark is right before these bytes, or a double quote is right behind them
abbrev pub is_glued : Text → Range → Bool
is_glued text range = is_behind_mark text range.start || is_byte 34 (slice_get text range.end)

abbrev pub is_ascii_byte : ℕ → Bool
is_ascii_byte b = nat_lt b 128

-- these bytes are in the text, and all of them are ASCII
abbrev pub is_ascii_in : Text → Range → Bool
is_ascii_in text range = nat_le range.end (length text) && list_all is_ascii_byte (take (range.end - range.start) (drop range.start text))

-- A safe fix of other bytes is unsafe: how many bytes they are to the server hangs on the encoding of the database.
abbrev pub class_by_bytes : Bool → Option FixClass → Option FixClass
class_by_bytes is_ascii (Some Safe) = if is_ascii then Some Safe else Some Unsafe
class_by_bytes is_ascii class = class

-- the class of the fix of a report, by its rule, by the statement that it begins in and by its bytes; without one the fix is not offered
unfoldable pub class_of : LinterSettings → Tree → Violation → Option FixClass
class_of settings tree v =
    if is_glued tree.text v.text_range then None
    else class_by_bytes (is_ascii_in tree.text v.text_range) (class_at settings tree v.code (number_behind tree v.text_range.start))
