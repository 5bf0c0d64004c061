-- The blocks that Alembic writes around a migration: from a BEGIN to the next COMMIT or ROLLBACK of any form, both
-- included, where an UPDATE of its version table is between them.
use Rattle.std.specs.Prelude.{ℕ, Bool, true, false, ◌&&◌, ◌||◌, not, List, [], ◌∷◌, length, codes, if◌then◌else◌, Option, Some, None}
use Rattle.std.specs.Str.{str_eq_ignore_ascii_case}
use Rattle.sql_token.specs.declared.token.Span.{Span}
use Rattle.lint_ignore.specs.sql_tree.declared.kinds.StmtKind.{StmtKind}
use Rattle.lint_ignore.specs.sql_tree.declared.kinds.StmtKind.TheVariants as stmt
use Rattle.lint_ignore.specs.sql_tree.declared.nodes.Body.{Body}
use Rattle.lint_ignore.specs.sql_tree.declared.nodes.Body.TheVariants as body
use Rattle.lint_ignore.specs.sql_tree.declared.nodes.Stmt.{Stmt}
use Rattle.lint_ignore.specs.sql_tree.Statement.{Tree}
use Rattle.lint_transaction.specs.Earlier.{any_between, concat_below}
use Rattle.lint_transaction.specs.Names.{name_at}
use Rattle.lint_transaction.specs.Transaction.{is_begin_kind, stmt_at}
use Rattle.lint_pass.specs.declared.blocks.Block.{Block}

-- ---- one statement

-- COMMIT or ROLLBACK, of any form
abbrev pub is_end_kind : StmtKind → Bool
is_end_kind stmt.Commit = true
is_end_kind stmt.Rollback = true
is_end_kind _ = false

abbrev pub is_update_kind : StmtKind → Bool
is_update_kind stmt.Update = true
is_update_kind _ = false

abbrev pub written_by : Body → Option Span
written_by (body.Write w) = Some w.path
written_by _ = None

-- the last name of a path, in any ASCII case
abbrev pub is_version_table : Tree → Option Span → Bool
is_version_table tree None = false
is_version_table tree (Some path) = str_eq_ignore_ascii_case (name_at tree path.last) (codes "alembic_version")

-- the statement writes the version that a database is at
abbrev pub is_stamp : Tree → Stmt → Bool
is_stamp tree s = is_update_kind s.kind && is_version_table tree (written_by s.body)

-- ---- statements by their numbers

abbrev pub begins_at : Tree → ℕ → Bool
begins_at tree i = is_begin_kind (stmt_at tree i).kind

abbrev pub ends_at : Tree → ℕ → Bool
ends_at tree i = is_end_kind (stmt_at tree i).kind

abbrev pub bounds_at : Tree → ℕ → Bool
bounds_at tree i = begins_at tree i || ends_at tree i

abbrev pub stamps_at : Tree → ℕ → Bool
stamps_at tree i = is_stamp tree (stmt_at tree i)

-- statement b is a BEGIN, and no BEGIN, COMMIT or ROLLBACK is between it and statement e
abbrev pub leads_to : Tree → ℕ → ℕ → Bool
leads_to tree b e = begins_at tree b && not (any_between (bounds_at tree) b e)

-- the block from b to e, where they are its ends
abbrev pub block_of : Tree → ℕ → ℕ → List Block
block_of tree e b =
    if ends_at tree e && (leads_to tree b e && any_between (stamps_at tree) b e) then record { first = b; last = e } ∷ [] else []

-- the block that ends with statement e, if there is one
abbrev pub block_to : Tree → ℕ → List Block
block_to tree e = concat_below (block_of tree e) e

-- the blocks of a tree, by place
abbrev pub blocks_of : Tree → List Block
blocks_of tree = concat_below (block_to tree) (length tree.stmts)
