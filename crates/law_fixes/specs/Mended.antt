-- The law of a fix: the text that it makes has a tree, its terminals are those of the old text but for what the fix adds, and its
-- rule reports nothing there.
use Rattle.std.specs.Prelude.{◌≡◌, ◌≢◌, ◌<◌, ℕ, ◌+◌, ◌^◌, List, [], ◌∷◌, codes, drop, length, take, All, Some}
use Rattle.law_edit_inserts.specs.sql_token.declared.token.Tok.{Tok}
use Rattle.law_edit_inserts.specs.sql_tree.declared.nodes.Stmt.{Stmt}
use Rattle.law_edit_inserts.specs.sql_tree.Range.{token_at}
use Rattle.law_edit_inserts.specs.sql_tree.Statement.{Tree, IsTree}
use Rattle.law_edit_inserts.specs.law_edit_tokens.Edits.{concurrently_made}
use Rattle.law_edit_inserts.specs.law_edit_tokens.Exchange.{made_text, made_toks, reread}
use Rattle.law_edit_inserts.specs.Built.{WordAdded}
use Rattle.pass_concurrent.specs.lint_base.declared.edit.Edit.{Edit}
use Rattle.pass_concurrent.specs.lint_base.declared.rule.Rule.{Rule}
use Rattle.pass_concurrent.specs.lint_base.declared.rule.Rule.TheVariants as rule
use Rattle.pass_concurrent.specs.lint_base.declared.settings.LinterSettings.{LinterSettings}
use Rattle.pass_concurrent.specs.lint_base.declared.violation.Violation.{Violation}
use Rattle.pass_concurrent.specs.lint_base.Edits.{insertion}
use Rattle.pass_concurrent.specs.lint_base.Fixes.{FixValue}
use Rattle.pass_concurrent.specs.lint_base.RuleSets.{Rules}
use Rattle.pass_concurrent.specs.lint_transaction.Transaction.{stmt_at}
use Rattle.pass_concurrent.specs.lint_pass.RuleTables.{table_of}
use Rattle.pass_concurrent.specs.RequireConcurrentIndexCreation.{reports_on}
use Rattle.pass_concurrent.specs.RequireConcurrentIndexDeletion.{reports_of_require_concurrent_index_deletion}
use Rattle.pass_concurrent.specs.RequireConcurrentPartitionDetach.{reports_of_require_concurrent_partition_detach}
use Rattle.pass_concurrent.specs.RequireConcurrentReindex.{reports_of_require_concurrent_reindex}
use Rattle.law_fixes.specs.Edited.{edited, place_moved}

-- ---- tables

-- the reports of a pass
abbrev pub Table : Type 0
Table = Tree → Rules → LinterSettings → List Violation

-- the reports on a statement, by its number
abbrev pub Reports : Type 0
Reports = LinterSettings → Tree → ℕ → Stmt → List Violation

-- the table of a pass of one rule
abbrev pub table_by : Rule → Reports → Table
table_by code reports tree rules settings = table_of code (λ i. reports settings tree i (stmt_at tree i)) rules (length tree.stmts)

-- the reports on an index that is built
abbrev pub builds_of : Reports
builds_of settings tree i s = reports_on settings tree i s

-- the reports on indexes that are dropped
abbrev pub deletions_of : Reports
deletions_of settings tree i s = reports_of_require_concurrent_index_deletion tree s

-- the reports on indexes that are rebuilt
abbrev pub rebuilds_of : Reports
rebuilds_of settings tree i s = reports_of_require_concurrent_reindex tree s

-- the reports on partitions that are detached
abbrev pub detachments_of : Reports
detachments_of settings tree i s = reports_of_require_concurrent_partition_detach tree s

-- ---- the tables of the rules whose fix puts the word CONCURRENTLY into a text

-- the table of RequireConcurrentIndexCreation
abbrev pub builds : Table
builds = table_by rule.RequireConcurrentIndexCreation builds_of

-- the table of RequireConcurrentIndexDeletion
abbrev pub dropped : Table
dropped = table_by rule.RequireConcurrentIndexDeletion deletions_of

-- the table of RequireConcurrentReindex
abbrev pub rebuilt : Table
rebuilt = table_by rule.RequireConcurrentReindex rebuilds_of

-- the table of RequireConcurrentPartitionDetach
abbrev pub detached : Table
detached = table_by rule.RequireConcurrentPartitionDetach detachments_of

-- ---- the law

-- The edited text has a tree, whose terminals are as `Terms` says, and in its table no report begins where this one began.
pub record Mended (table : Table) (tree : Tree) (rules : Rules) (settings : LinterSettings) (v : Violation) (edits : List Edit) (Terms : Tree → Type 0) : Type 0 where
  pub new : Tree
  pub text : new.text ≡ edited tree.text edits
  pub is : IsTree new
  pub terms : Terms new
  pub silent : All (λ w. w.text_range.start ≢ place_moved edits v.text_range.start) (table new rules settings)

-- the tokens of the text with ` concurrently` after token n: all others are the old ones, moved
abbrev pub toks_with_word : Tree → ℕ → List Tok
toks_with_word tree n =
    reread (take (n + 1) tree.toks) (made_toks (token_at tree.toks n).end concurrently_made) (token_at tree.toks n).end
    ((token_at tree.toks n).end + length (made_text concurrently_made)) (drop (n + 1) tree.toks)

-- The one edit puts the word right after a token. The tokens are those of the old text and the word's, and so the terminals are,
-- statement by statement.
pub record WithWord (tree : Tree) (edits : List Edit) (new : Tree) : Type 0 where
  pub n : ℕ
  pub within : n < length tree.toks
  pub put : edits ≡ insertion (codes " concurrently") (token_at tree.toks n).end ∷ []
  pub toks : new.toks ≡ toks_with_word tree n
  pub terms : WordAdded tree new n

-- So it is for the fix of this report, if the edited text has less than 2^32 bytes.
abbrev pub FixMends : Table → Tree → Rules → LinterSettings → Violation → Type 0
FixMends table tree rules settings v =
    (f : FixValue) → v.fix ≡ Some f → length (edited tree.text f.edits) < 2 ^ 32 → Mended table tree rules settings v f.edits (WithWord tree f.edits)

-- So it is for the fix of each report of the table, in each tree, whichever rules are enabled and whatever the settings are.
abbrev pub FixesMend : Table → Type 0
FixesMend table = (tree : Tree) (rules : Rules) (settings : LinterSettings) → IsTree tree → All (FixMends table tree rules settings) (table tree rules settings)
