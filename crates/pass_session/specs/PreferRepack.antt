-- What is reported of statements that rewrite a table while nobody can use it (PostgreSQL 19 manual, REPACK; CLUSTER; VACUUM).
use Rattle.std.specs.Prelude.{ℕ, pos, Bool, List, [], ◌∷◌, ◌++◌, codes, slice_index_or, if◌then◌else◌, Option, Some, None}
use Rattle.std.specs.Int.Signed.{le_z}
use Rattle.lint_pass.specs.sql_token.declared.token.Span.{Span}
use Rattle.lint_pass.specs.sql_tree.declared.nodes.Body.{Body}
use Rattle.lint_pass.specs.sql_tree.declared.nodes.Body.TheVariants as body
use Rattle.lint_pass.specs.sql_tree.declared.nodes.Stmt.{Stmt}
use Rattle.lint_pass.specs.sql_tree.Range.{span_range_of, stmt_range_of}
use Rattle.lint_pass.specs.sql_tree.Statement.{Tree}
use Rattle.lint_pass.specs.lint_base.declared.rule.Rule.TheVariants as rule
use Rattle.lint_pass.specs.lint_base.declared.settings.LinterSettings.{LinterSettings}
use Rattle.lint_pass.specs.lint_base.declared.violation.Violation.{Violation}
use Rattle.lint_pass.specs.lint_base.Fixes.{FixValue}
use Rattle.lint_pass.specs.Fixes.{replacement_fix}
use Rattle.pass_session.specs.Tokens.{last_word, source_of}

-- ---- the texts of fixes

-- a word and the source of some tokens, where these are there
abbrev pub part : List ℕ → Tree → Option Span → List ℕ
part word tree None = []
part word tree (Some span) = word ++ source_of tree span

abbrev pub one_token : Option ℕ → Option Span
one_token None = None
one_token (Some number) = Some (record { first = number; last = number })

-- REPACK of these tables, and by this index
abbrev pub repack : Tree → Option Span → Option ℕ → List ℕ
repack tree tables index =
    codes "repack (concurrently)" ++ part (codes " ") tree tables ++ part (codes " using index ") tree (one_token index)

-- REPACK in place of the statement without its semicolon
abbrev pub repack_fix : Tree → Stmt → Option Span → Option ℕ → FixValue
repack_fix tree s tables index =
    replacement_fix (codes "Replace with `repack (concurrently)`") (repack tree tables index) (span_range_of tree.toks s.first (last_word tree s.first s.last))

-- ---- the reports

abbrev pub report : Tree → Stmt → List ℕ → Option FixValue → Violation
report tree s message fix = record {
  code = rule.PreferRepack;
  message = message;
  text_range = stmt_range_of tree.toks s;
  note = None;
  help = Some (codes "use `repack` to rewrite the table without blocking reads and writes");
  fix = fix;
}

-- a CLUSTER of this table, by this index
unfoldable pub cluster_report : Tree → Stmt → Option Span → Option ℕ → Violation
cluster_report tree s table index =
    report tree s (codes "`cluster` requires an `access exclusive` lock which blocks reads and writes to the table") (Some (repack_fix tree s table index))

-- A VACUUM without tables has no fix: it is of every table of the database, and each would need a REPACK of its own.
abbrev pub vacuum_fix : Tree → Stmt → Option Span → Option FixValue
vacuum_fix tree s None = None
vacuum_fix tree s (Some tables) = Some (repack_fix tree s (Some tables) None)

-- a VACUUM FULL of these tables
unfoldable pub vacuum_report : Tree → Stmt → Option Span → Violation
vacuum_report tree s tables =
    report tree s (codes "`vacuum full` requires an `access exclusive` lock which blocks reads and writes to the table") (vacuum_fix tree s tables)

abbrev pub rewrites_by : Tree → Stmt → Body → List Violation
rewrites_by tree s (body.Cluster table index) = cluster_report tree s table index ∷ []
rewrites_by tree s (body.Vacuum full tables) = if full then vacuum_report tree s tables ∷ [] else []
rewrites_by tree s _ = []

-- PostgreSQL has REPACK from version 19 on
abbrev pub has_repack : LinterSettings → Bool
has_repack settings = le_z (pos 19) (slice_index_or settings.pg_version 0 (pos 0))

abbrev pub reports_of_prefer_repack : LinterSettings → Tree → Stmt → List Violation
reports_of_prefer_repack settings tree s = if has_repack settings then rewrites_by tree s s.body else []
