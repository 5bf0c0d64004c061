-- Where the reports on a statement begin.
use Rattle.std.proofs.Common.{ℕ, Bool, true, false, cond, [], ◌∷◌, ◌++◌, refl, None, Some}
use Rattle.std.proofs.lemmas.List.Elements.{All-nil, All-cons}
use Rattle.std.specs.Prelude.{All}
use Rattle.law_type_fixes.specs.sql_tree.declared.nodes.Body.{Body}
use Rattle.law_type_fixes.specs.sql_tree.declared.nodes.Body.TheVariants as body
use Rattle.law_type_fixes.specs.sql_tree.declared.nodes.Stmt.{Stmt}
use Rattle.law_type_fixes.specs.sql_tree.Path.{path_cuts}
use Rattle.law_type_fixes.specs.sql_tree.Range.{token_at}
use Rattle.law_type_fixes.specs.sql_tree.Statement.{Tree}
use Rattle.law_type_fixes.specs.lint_base.declared.settings.LinterSettings.{LinterSettings}
use Rattle.law_type_fixes.specs.lint_base.declared.violation.Violation.{Violation}
use Rattle.law_type_fixes.specs.lint_node.Plain.{is_plain_drop, is_plain_reindex}
use Rattle.law_type_fixes.specs.lint_transaction.Transaction.{is_new}
use Rattle.law_type_fixes.specs.pass_concurrent.RequireConcurrentIndexCreation as build
use Rattle.law_type_fixes.specs.pass_concurrent.RequireConcurrentIndexDeletion as drops
use Rattle.law_type_fixes.specs.pass_concurrent.RequireConcurrentReindex as reindexes
use Rattle.law_type_fixes.specs.law_fixes.Mended.{builds_of}
use Rattle.law_fix_steps.proofs.Left.{BeginsAt}

one_begins : (place : ℕ) (v : Violation) → BeginsAt place v → All (BeginsAt place) (v ∷ [])
one_begins place v e = All-cons (BeginsAt place) v [] e (All-nil (BeginsAt place))

that_begins : (place : ℕ) (b : Bool) (v : Violation) → BeginsAt place v → All (BeginsAt place) (cond b (v ∷ []) [] ++ [])
that_begins place true v e = one_begins place v e
that_begins place false v e = All-nil (BeginsAt place)

-- reports on indexes that are built, dropped or rebuilt begin with their statement
pub builds_begin : (settings : LinterSettings) (tree : Tree) (i : ℕ) (x : Stmt) → All (BeginsAt (token_at tree.toks x.first).start) (builds_of settings tree i x)
unfolding build.report
builds_begin settings tree i x = by x.body
  where
    unless : (b : Bool) (v : Violation) → BeginsAt (token_at tree.toks x.first).start v → All (BeginsAt (token_at tree.toks x.first).start) (cond b [] (v ∷ []))
    unless true v e = All-nil (BeginsAt (token_at tree.toks x.first).start)
    unless false v e = one_begins (token_at tree.toks x.first).start v e

    by : (b : Body) → All (BeginsAt (token_at tree.toks x.first).start) (build.reports_by settings tree i x b)
    by (body.Index word unique None guarded name path) = unless (is_new settings.assume_in_transaction tree (path_cuts tree.text tree.toks path) i) (build.report tree x word) refl
    by (body.Index word unique (Some c) guarded name path) = All-nil (BeginsAt (token_at tree.toks x.first).start)
    by b = All-nil (BeginsAt (token_at tree.toks x.first).start)

pub drops_begin : (tree : Tree) (x : Stmt) → All (BeginsAt (token_at tree.toks x.first).start) (drops.reports_of_require_concurrent_index_deletion tree x)
unfolding drops.report
drops_begin tree x = that_begins (token_at tree.toks x.first).start (is_plain_drop x) (drops.report tree x) refl

pub rebuilds_begin : (tree : Tree) (x : Stmt) → All (BeginsAt (token_at tree.toks x.first).start) (reindexes.reports_of_require_concurrent_reindex tree x)
unfolding reindexes.report
rebuilds_begin tree x = that_begins (token_at tree.toks x.first).start (is_plain_reindex x) (reindexes.report tree x) refl
