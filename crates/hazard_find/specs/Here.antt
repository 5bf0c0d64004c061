-- What is known of a statement by the settings and by the statements before it, and by the ones that look at its index later.
use Rattle.std.specs.Prelude.{ℕ, pos, Bool, not, nat_lt, length, slice_index_or, Option, Some, None, if◌then◌else◌}
use Rattle.std.specs.Int.Signed.{le_z}
use Rattle.lint_ignore.specs.sql_token.declared.token.Span.{Span}
use Rattle.lint_ignore.specs.sql_tree.declared.nodes.Body.{Body}
use Rattle.lint_ignore.specs.sql_tree.declared.nodes.Body.TheVariants as body
use Rattle.lint_ignore.specs.sql_tree.declared.nodes.Stmt.{Stmt}
use Rattle.lint_ignore.specs.sql_tree.Statement.{Tree}
use Rattle.hazard_base.specs.lint_base.declared.settings.LinterSettings.{LinterSettings}
use Rattle.lint_node.specs.Altered.{altered_path}
use Rattle.lint_transaction.specs.Transaction.{is_open, stmt_at}
use Rattle.hazard_find.specs.declared.here.Here.{Here}
use Rattle.hazard_find.specs.Earlier.{is_assumed, is_dropped_index, is_made_view, is_old, is_under_timeout, refreshed_view}
use Rattle.hazard_find.specs.Guards.{is_guarded}

abbrev pub table_by : Stmt → Body → Option Span
table_by s (body.Cluster table index) = table
table_by s _ = altered_path s

-- the table that a CLUSTER or an ALTER TABLE names
unfoldable pub table_of : Stmt → Option Span
table_of s = table_by s s.body

abbrev pub one_name : Option ℕ → Option Span
one_name None = None
one_name (Some number) = Some (record { first = number; last = number })

abbrev pub index_by : Body → Option Span
index_by (body.Index word unique concurrently guarded name path) = one_name name
index_by _ = None

-- the index that a CREATE INDEX names
unfoldable pub index_of : Stmt → Option Span
index_of s = index_by s.body

-- PostgreSQL has REPACK from version 19 on, and then the rule prefer-repack speaks.
abbrev pub has_repack : LinterSettings → Bool
has_repack settings = le_z (pos 19) (slice_index_or settings.pg_version 0 (pos 0))

-- A text of one statement is run without a transaction block, unless one is assumed. Even then nothing in it is reported as refused.
abbrev pub has_more : Tree → Bool
has_more tree = nat_lt 1 (length tree.stmts)

-- what is known of statement i
unfoldable pub known_at : LinterSettings → Tree → ℕ → Here
known_at settings tree i = record {
  is_inside = is_open (is_assumed settings tree) tree i;
  has_more = has_more tree;
  has_repack = has_repack settings;
  is_old = is_old (is_assumed settings tree) tree i (table_of (stmt_at tree i));
  is_dropped_index = is_dropped_index tree i (index_of (stmt_at tree i));
  is_guarded = is_guarded tree i (index_of (stmt_at tree i));
  is_made_view = is_made_view tree i (refreshed_view tree (stmt_at tree i));
  is_under_timeout = is_under_timeout tree i;
}
