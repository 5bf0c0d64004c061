-- The edits of the fixes of the ten rules.
use Rattle.std.proofs.Common.{◌≡◌, ℕ, ◌<◌, ◌≤◌, ◌⊎◌, inl, inr, Bool, true, List, [], ◌∷◌, ◌++◌, length, sym, refl, ap, ◌∙◌, subst, arith, Some, None}
use Rattle.std.proofs.lemmas.List.Elements.{All-nil, All-append}
use Rattle.std.specs.Prelude.{All}
use Rattle.law_answers.specs.sql_token.Token.{Text}
use Rattle.law_answers.specs.sql_tree.declared.nodes.Action.{Action}
use Rattle.law_answers.specs.sql_tree.declared.nodes.Body.{Body}
use Rattle.law_answers.specs.sql_tree.declared.nodes.Body.TheVariants as body
use Rattle.law_answers.specs.sql_tree.declared.nodes.ColType.{ColType}
use Rattle.law_answers.specs.sql_tree.declared.nodes.Stmt.{Stmt}
use Rattle.law_answers.specs.sql_tree.Range.{token_at, span_range_of}
use Rattle.law_answers.specs.sql_tree.Statement.{Tree, IsTree}
use Rattle.law_answers.proofs.of_law_edit_inserts.Apart.{stays_within}
use Rattle.law_answers.specs.lint_base.declared.rule.Rule.TheVariants as rule
use Rattle.law_answers.specs.lint_base.declared.settings.LinterSettings.{LinterSettings}
use Rattle.law_answers.specs.lint_base.declared.violation.Violation.{Violation}
use Rattle.law_answers.specs.lint_base.Edits.{insertion, replacement}
use Rattle.law_answers.specs.lint_base.Fixes.{FixValue}
use Rattle.law_answers.specs.lint_base.RuleSets.{Rules, has}
use Rattle.law_answers.specs.lint_node.ColumnTypes.{column_types}
use Rattle.law_answers.specs.lint_node.Parts.{table_actions}
use Rattle.law_answers.specs.lint_node.Plain.{is_plain_detach, is_plain_drop, is_plain_reindex}
use Rattle.law_answers.specs.lint_pass.Fixes.{insertion_fix}
use Rattle.law_answers.specs.lint_pass.RuleLaws.{flat_all, one_all, pieces_all, rule_all, unless_all, where_all}
use Rattle.law_answers.specs.lint_pass.Those.{that, those}
use Rattle.law_answers.specs.lint_transaction.Transaction.{is_new, no_stmt, stmt_at}
use Rattle.law_answers.specs.pass_concurrent.RequireConcurrentIndexCreation as index
use Rattle.law_answers.specs.pass_concurrent.RequireConcurrentIndexDeletion as deletion
use Rattle.law_answers.specs.pass_concurrent.RequireConcurrentPartitionDetach as detachment
use Rattle.law_answers.specs.pass_concurrent.RequireConcurrentReindex as reindex
use Rattle.law_answers.specs.pass_session.RequireTimeoutSettings.{both_reports, is_first_slow, is_set, lock_report, lock_timeout, statement_report, statement_timeout, timeouts_at}
use Rattle.law_answers.specs.sql_tree.Path.{path_cuts}
use Rattle.law_answers.specs.Tables.{timeouts}
use Rattle.law_answers.specs.law_fixes.Mended.{builds, dropped, rebuilt, detached}
use Rattle.law_answers.proofs.of_law_fixes.Fixed.{At, at_or_none, inside_some}
use Rattle.law_answers.proofs.of_law_fixes.Tokens.{starts_ascend}
use Rattle.law_answers.specs.law_type_fixes.Rules.{TypeRule, reports_on, type_reports, type_table, ints, smallints, timestamps, varchars}
use Rattle.law_answers.proofs.of_law_type_fixes.ColumnTypes.{no_types}
use Rattle.law_answers.proofs.of_law_type_fixes.Edits.{puts_word}
use Rattle.law_answers.proofs.of_law_type_fixes.Fixes.{all_reports}
use Rattle.law_answers.proofs.of_law_type_fixes.TypesApart.{types_apart}
use Rattle.law_answers.proofs.of_law_type_fixes.Words.{HasFix, InnerFix, NameFix, ints_fix, smallints_fix, timestamps_fix, varchars_fix}
use Rattle.law_listed_edits.specs.OneEdit.{AreMendedByOne, HasOneEdit, IsMendedByOne, MendedByOne}
use Rattle.law_listed_edits.proofs.TypesBehind.{type_behind}

-- ---- insertions

inserts : (title text : Text) (at : ℕ) → HasOneEdit (insertion_fix title text at)
inserts title text at = record { edit = insertion text at; one = refl; behind = λ h. absurd (omega arith) }

is_inserted : (title text : Text) (at : ℕ) (v : Violation) → v.fix ≡ Some (insertion_fix title text at) → IsMendedByOne v
is_inserted title text at v is f fix = subst HasOneEdit (inside_some (sym is ∙ fix)) (inserts title text at)

-- the reports of the nodes of a list that pass
those_all : {N : Type 0} (test : N → Bool) (report : N → Violation) (nodes : List N) → ((n : N) → IsMendedByOne (report n)) → All IsMendedByOne (those test report nodes)
those_all test report nodes h = flat_all IsMendedByOne (that test report) nodes (λ n. where_all IsMendedByOne (test n) (report n ∷ []) (λ e. one_all IsMendedByOne (report n) (h n)))

build_one : (tree : Tree) (s : Stmt) (word : ℕ) → IsMendedByOne (index.report tree s word)
unfolding index.report
build_one tree s word = is_inserted _ _ _ (index.report tree s word) refl

on_build : (settings : LinterSettings) (tree : Tree) (i : ℕ) (s : Stmt) (b : Body) → All IsMendedByOne (index.reports_by settings tree i s b)
on_build settings tree i s (body.Index word unique None guarded name path) =
    unless_all IsMendedByOne (is_new settings.assume_in_transaction tree (path_cuts tree.text tree.toks path) i) (index.report tree s word ∷ []) (one_all IsMendedByOne (index.report tree s word) (build_one tree s word))
on_build settings tree i s b = All-nil IsMendedByOne

builds_one : AreMendedByOne builds
builds_one tree rules settings is =
    rule_all IsMendedByOne rule.RequireConcurrentIndexCreation (λ i. index.reports_on settings tree i (stmt_at tree i)) rules (length tree.stmts)
    (λ i. on_build settings tree i (stmt_at tree i) (stmt_at tree i).body)

drop_one : (tree : Tree) (s : Stmt) → IsMendedByOne (deletion.report tree s)
unfolding deletion.report
drop_one tree s = is_inserted _ _ _ (deletion.report tree s) refl

dropped_one : AreMendedByOne dropped
dropped_one tree rules settings is =
    rule_all IsMendedByOne rule.RequireConcurrentIndexDeletion (λ i. deletion.reports_of_require_concurrent_index_deletion tree (stmt_at tree i)) rules (length tree.stmts)
    (λ i. those_all is_plain_drop (deletion.report tree) (stmt_at tree i ∷ []) (drop_one tree))

reindex_one : (tree : Tree) (s : Stmt) → IsMendedByOne (reindex.report tree s)
unfolding reindex.report
reindex_one tree s = is_inserted _ _ _ (reindex.report tree s) refl

rebuilt_one : AreMendedByOne rebuilt
rebuilt_one tree rules settings is =
    rule_all IsMendedByOne rule.RequireConcurrentReindex (λ i. reindex.reports_of_require_concurrent_reindex tree (stmt_at tree i)) rules (length tree.stmts)
    (λ i. those_all is_plain_reindex (reindex.report tree) (stmt_at tree i ∷ []) (reindex_one tree))

detach_one : (tree : Tree) (a : Action) → IsMendedByOne (detachment.report tree a)
unfolding detachment.report
detach_one tree a = is_inserted _ _ _ (detachment.report tree a) refl

detached_one : AreMendedByOne detached
detached_one tree rules settings is =
    rule_all IsMendedByOne rule.RequireConcurrentPartitionDetach (λ i. detachment.reports_of_require_concurrent_partition_detach tree (stmt_at tree i)) rules (length tree.stmts)
    (λ i. those_all is_plain_detach (detachment.report tree) (table_actions (stmt_at tree i)) (detach_one tree))

lock_one : (tree : Tree) (s : Stmt) → IsMendedByOne (lock_report tree s)
unfolding lock_report
lock_one tree s = is_inserted _ _ _ (lock_report tree s) refl

statement_one : (tree : Tree) (s : Stmt) → IsMendedByOne (statement_report tree s)
unfolding statement_report
statement_one tree s = is_inserted _ _ _ (statement_report tree s) refl

both_one : (a b : Bool) (tree : Tree) (rules : Rules) (s : Stmt) → All IsMendedByOne (both_reports a b tree rules s)
both_one a b tree rules s =
    All-append IsMendedByOne _ _
    (where_all IsMendedByOne (has rules rule.RequireLockTimeout) _ (λ e. unless_all IsMendedByOne a (lock_report tree s ∷ []) (one_all IsMendedByOne (lock_report tree s) (lock_one tree s))))
    (where_all IsMendedByOne (has rules rule.RequireStatementTimeout) _ (λ e. unless_all IsMendedByOne b (statement_report tree s ∷ []) (one_all IsMendedByOne (statement_report tree s) (statement_one tree s))))

timeouts_one : AreMendedByOne timeouts
timeouts_one tree rules settings is =
    pieces_all IsMendedByOne (timeouts_at tree rules) (length tree.stmts)
    (λ i. where_all IsMendedByOne (is_first_slow tree i) _ (λ e. both_one (is_set tree lock_timeout i) (is_set tree statement_timeout i) tree rules (stmt_at tree i)))

-- ---- column types

module _ (of : TypeRule) (tree : Tree) (before : List Stmt) (st : Stmt) (after : List Stmt) (earlier : List ColType) (ty : ColType) (later : List ColType)
    (is : IsTree tree) (parts : tree.stmts ≡ before ++ st ∷ after) (cut : column_types st ≡ earlier ++ ty ∷ later) where
  -- a fix that puts a word in the place of the tokens n to m of the type
  replaces : (n m until : ℕ) (word : Text) (f : FixValue) → ty.whole.first ≤ n → n ≤ m → m < until → until ≤ length tree.toks →
      f.edits ≡ replacement (span_range_of tree.toks n m) word ∷ [] → HasOneEdit f
  replaces n m until word f low order high top edits =
      let puts = puts_word tree n m word f is.lexed order (omega (arith, high, top)) edits in
      let first = type_behind tree before st after earlier ty later is parts cut (omega (arith, high, top)) in
      let start = starts_ascend tree.text tree.toks 0 n is.lexed (omega (arith, first, low)) (omega (arith, order, high, top)) in
      record {
        edit = replacement (record { start = (token_at tree.toks n).start; end = (token_at tree.toks m).end }) word;
        one = puts.edits;
        behind = λ h. omega (arith, start);
      }

  inner_one : (f : FixValue) → InnerFix of tree ty f → HasOneEdit f
  inner_one f fix =
      let a = types_apart tree before st after earlier ty later is parts cut in
      let first = stays_within ty.whole.first a.until ty.inner.first (ap (λ (x : ColType). x.inner.first) a.here_is) in
      let last = stays_within ty.whole.first a.until ty.inner.last (ap (λ (x : ColType). x.inner.last) a.here_is) in
      replaces ty.inner.first ty.inner.last a.until fix.word f first.0 a.inner last.1 a.within fix.edits

  name_one : (f : FixValue) → NameFix of tree ty f → HasOneEdit f
  name_one f fix =
      let a = types_apart tree before st after earlier ty later is parts cut in
      let name = stays_within ty.whole.first a.until ty.name (ap (λ (x : ColType). x.name) a.here_is) in
      replaces ty.name ty.name a.until fix.word f name.0 (omega arith) name.1 a.within fix.edits

-- What holds of the fix of each type's report holds of all of the table.
types_one : (of : TypeRule) →
    ((tree : Tree) (before : List Stmt) (st : Stmt) (after : List Stmt) (earlier : List ColType) (ty : ColType) (later : List ColType) →
    IsTree tree → tree.stmts ≡ before ++ st ∷ after → column_types st ≡ earlier ++ ty ∷ later → of.test tree ty ≡ true → IsMendedByOne (of.report tree ty)) →
    AreMendedByOne (type_table of)
types_one of one tree rules settings is = rule_all IsMendedByOne of.code (λ i. type_reports of settings tree i (stmt_at tree i)) rules (length tree.stmts) (λ j. each j (at_or_none tree.stmts j))
  where
    each : (j : ℕ) → At tree.stmts j ⊎ (stmt_at tree j ≡ no_stmt) → All IsMendedByOne (reports_on of tree (column_types (stmt_at tree j)))
    each j (inr e) = subst (λ (l : List ColType). All IsMendedByOne (reports_on of tree l)) (sym (ap column_types e ∙ no_types)) (All-nil IsMendedByOne)
    each j (inl a) =
        all_reports IsMendedByOne of tree (column_types (stmt_at tree j)) [] (column_types (stmt_at tree j)) refl
        (λ earlier ty later cut passes. one tree a.before (stmt_at tree j) a.after earlier ty later is a.parts cut passes)

inners_one : (of : TypeRule) → HasFix of InnerFix → AreMendedByOne (type_table of)
inners_one of fixes = types_one of (λ tree before st after earlier ty later is parts cut passes f has. inner_one of tree before st after earlier ty later is parts cut f (fixes tree ty f passes has))

names_one : (of : TypeRule) → HasFix of NameFix → AreMendedByOne (type_table of)
names_one of fixes = types_one of (λ tree before st after earlier ty later is parts cut passes f has. name_one of tree before st after earlier ty later is parts cut f (fixes tree ty f passes has))

-- ---- all tables

pub mended_by_one : MendedByOne
mended_by_one rule.RequireConcurrentIndexCreation = builds_one
mended_by_one rule.RequireConcurrentIndexDeletion = dropped_one
mended_by_one rule.RequireConcurrentReindex = rebuilt_one
mended_by_one rule.RequireConcurrentPartitionDetach = detached_one
mended_by_one rule.RequireLockTimeout = timeouts_one
mended_by_one rule.RequireStatementTimeout = timeouts_one
mended_by_one rule.PreferTextField = inners_one varchars varchars_fix
mended_by_one rule.PreferTimestampTz = inners_one timestamps timestamps_fix
mended_by_one rule.PreferBigintOverInt = names_one ints ints_fix
mended_by_one rule.PreferBigintOverSmallint = names_one smallints smallints_fix
mended_by_one _ = tt
