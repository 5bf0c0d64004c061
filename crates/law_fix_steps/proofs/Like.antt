-- Statements that the listed rules see alike, and the tables of trees of such statements.
use Rattle.std.proofs.Common.{◌≡◌, ℕ, Bool, true, false, cond, List, [], ◌∷◌, ◌++◌, map, length, sym, refl, ap, subst}
use Rattle.std.proofs.lemmas.Bool.{false≢true}
use Rattle.std.proofs.lemmas.List.Elements.{All-nil, All-cons, All-head, All-tail, All-weaker}
use Rattle.std.specs.Prelude.{All, ◌&&◌}
use Rattle.law_type_fixes.specs.sql_tree.declared.nodes.Stmt.{Stmt}
use Rattle.law_type_fixes.specs.sql_tree.Range.{token_at}
use Rattle.law_type_fixes.specs.sql_tree.Statement.{Tree}
use Rattle.law_type_fixes.specs.lint_base.declared.rule.Rule.{Rule}
use Rattle.law_type_fixes.specs.lint_base.declared.rule.Rule.TheVariants as rule
use Rattle.law_type_fixes.specs.lint_base.declared.settings.LinterSettings.{LinterSettings}
use Rattle.law_type_fixes.specs.lint_base.declared.violation.Violation.{Violation}
use Rattle.law_type_fixes.specs.lint_base.RuleSets.{Rules, has}
use Rattle.law_type_fixes.specs.lint_lock.Slow.{is_slow}
use Rattle.law_type_fixes.specs.lint_node.ColumnTypes.{column_types}
use Rattle.law_type_fixes.specs.lint_pass.RuleTables.{enabled_reports}
use Rattle.law_type_fixes.specs.lint_transaction.Earlier.{concat_below}
use Rattle.law_type_fixes.specs.lint_transaction.Transaction.{begins, ends, chains, creates, is_new, stmt_at}
use Rattle.law_type_fixes.specs.pass_concurrent.RequireConcurrentPartitionDetach.{reports_of_require_concurrent_partition_detach}
use Rattle.law_type_fixes.specs.pass_session.RequireTimeoutSettings.{both_reports, is_first_slow, is_set, lock_report, lock_reports, lock_timeout, sets, statement_report, statement_reports, statement_timeout, timeouts_at, unless}
use Rattle.law_type_fixes.specs.law_fixes.Mended.{Reports, Table, table_by, builds_of, deletions_of, rebuilds_of, detachments_of, builds, dropped, rebuilt, detached}
use Rattle.law_type_fixes.specs.Rules.{TypeRule, reports_on, type_reports, type_table, ints, smallints, timestamps, varchars}
use Rattle.law_fix_steps.specs.Kept.{SameAt, Kept}
use Rattle.law_fix_steps.specs.Leaves.{followed_tables}
use Rattle.law_fix_steps.specs.Left.{Left}
use Rattle.law_fix_steps.specs.Step.{listed_tables, timeouts}
use Rattle.law_fix_steps.proofs.Kept.{kept_append, kept_one, kept_where}
use Rattle.law_fix_steps.proofs.Left.{left_kept, left_where}

abbrev pub type_rules : List TypeRule
type_rules = varchars ∷ timestamps ∷ ints ∷ smallints ∷ []

-- The statement y of the new tree, and the statement x of the old one: transactions and timeouts see them alike, and no report on y
-- is new. (What is new is asked of a path at the numbers i and j of the two statements.)
pub record Like (exact : Bool) (move : ℕ → ℕ) (gone : ℕ) (tree new : Tree) (x y : Stmt) : Type 0 where
  pub begins_is : begins y ≡ begins x
  pub ends_is : ends y ≡ ends x
  pub chains_is : chains y ≡ chains x
  pub creates_is : (path : List (List ℕ)) → creates new path y ≡ creates tree path x
  pub slow_is : is_slow y ≡ is_slow x
  pub sets_is : (name : List ℕ) → sets new name y ≡ sets tree name x
  pub place : is_slow x ≡ true → (token_at new.toks y.first).start ≡ move (token_at tree.toks x.first).start
  pub builds_are : (settings : LinterSettings) (i j : ℕ) →
      ((path : List (List ℕ)) → is_new settings.assume_in_transaction new path j ≡ is_new settings.assume_in_transaction tree path i) →
      Left exact move gone (builds_of settings new j y) (builds_of settings tree i x)
  pub drops_are : (settings : LinterSettings) (i j : ℕ) → Left exact move gone (deletions_of settings new j y) (deletions_of settings tree i x)
  pub rebuilds_are : (settings : LinterSettings) (i j : ℕ) → Left exact move gone (rebuilds_of settings new j y) (rebuilds_of settings tree i x)
  pub detaches_are : Kept move (reports_of_require_concurrent_partition_detach new y) (reports_of_require_concurrent_partition_detach tree x)
  pub types_are : All (λ r. Left exact move gone (reports_on r new (column_types y)) (reports_on r tree (column_types x))) type_rules

-- Nothing is reported of this statement, which is not the first slow one.
pub record Quiet (new : Tree) (k : ℕ) : Type 0 where
  pub builds_none : (settings : LinterSettings) → builds_of settings new k (stmt_at new k) ≡ []
  pub drops_none : (settings : LinterSettings) → deletions_of settings new k (stmt_at new k) ≡ []
  pub rebuilds_none : (settings : LinterSettings) → rebuilds_of settings new k (stmt_at new k) ≡ []
  pub detaches_none : reports_of_require_concurrent_partition_detach new (stmt_at new k) ≡ []
  pub types_none : column_types (stmt_at new k) ≡ []
  pub not_slow : is_first_slow new k ≡ false

-- Statement i of the old tree is statement `at i` of the new one, and those of `more` are in no place of an old one.
pub record Aligned (exact : Bool) (move : ℕ → ℕ) (gone : ℕ) (assumed : Bool) (tree new : Tree) : Type 0 where
  pub at : ℕ → ℕ
  pub more : List ℕ
  pub quiet : All (Quiet new) more
  pub like : (i : ℕ) → Like exact move gone tree new (stmt_at tree i) (stmt_at new (at i))
  pub news : (path : List (List ℕ)) (i : ℕ) → is_new assumed new path (at i) ≡ is_new assumed tree path i
  pub slows : (i : ℕ) → is_first_slow new (at i) ≡ is_first_slow tree i
  pub set_is : (name : List ℕ) (i : ℕ) → is_set tree name i ≡ true → is_set new name (at i) ≡ true
  pub pieces : (F G : ℕ → List Violation) → All (λ k. F k ≡ []) more → ((i : ℕ) → Kept move (F (at i)) (G i)) →
      Kept move (concat_below F (length new.stmts)) (concat_below G (length tree.stmts))
  pub pieces_left : (F G : ℕ → List Violation) → All (λ k. F k ≡ []) more → ((i : ℕ) → Left exact move gone (F (at i)) (G i)) →
      Left exact move gone (concat_below F (length new.stmts)) (concat_below G (length tree.stmts))

module _ (exact : Bool) (move : ℕ → ℕ) (gone : ℕ) (tree new : Tree) (rules : Rules) (settings : LinterSettings) (a : Aligned exact move gone settings.assume_in_transaction tree new) where
  abbrev K : List Violation → List Violation → Type 0
  K ws vs = Kept move ws vs

  where_none : (b : Bool) (l : List Violation) → l ≡ [] → cond b l [] ≡ []
  where_none true l e = e
  where_none false l e = refl

  one_table : (code : Rule) (reports : Reports) → All (λ k. reports settings new k (stmt_at new k) ≡ []) a.more →
      ((i : ℕ) → K (reports settings new (a.at i) (stmt_at new (a.at i))) (reports settings tree i (stmt_at tree i))) →
      K (table_by code reports new rules settings) (table_by code reports tree rules settings)
  one_table code reports none h =
      a.pieces (enabled_reports code (λ j. reports settings new j (stmt_at new j)) rules) (enabled_reports code (λ i. reports settings tree i (stmt_at tree i)) rules)
      (All-weaker (λ k. reports settings new k (stmt_at new k) ≡ []) (λ k. cond (has rules code) (reports settings new k (stmt_at new k)) [] ≡ [])
      (λ k e. where_none (has rules code) (reports settings new k (stmt_at new k)) e) a.more none)
      (λ i. kept_where move (has rules code) (reports settings new (a.at i) (stmt_at new (a.at i))) (reports settings tree i (stmt_at tree i)) (h i))

  one_left : (code : Rule) (reports : Reports) → All (λ k. reports settings new k (stmt_at new k) ≡ []) a.more →
      ((i : ℕ) → Left exact move gone (reports settings new (a.at i) (stmt_at new (a.at i))) (reports settings tree i (stmt_at tree i))) →
      Left exact move gone (table_by code reports new rules settings) (table_by code reports tree rules settings)
  one_left code reports none h =
      a.pieces_left (enabled_reports code (λ j. reports settings new j (stmt_at new j)) rules) (enabled_reports code (λ i. reports settings tree i (stmt_at tree i)) rules)
      (All-weaker (λ k. reports settings new k (stmt_at new k) ≡ []) (λ k. cond (has rules code) (reports settings new k (stmt_at new k)) [] ≡ [])
      (λ k e. where_none (has rules code) (reports settings new k (stmt_at new k)) e) a.more none)
      (λ i. left_where exact move gone (has rules code) (reports settings new (a.at i) (stmt_at new (a.at i))) (reports settings tree i (stmt_at tree i)) (h i))

  -- ---- timeouts

  unless_kept : (b b' : Bool) (v v' : Violation) → (b ≡ true → b' ≡ true) → SameAt move v' v → K (unless b' v') (unless b v)
  unless_kept b true v v' h same = tt
  unless_kept true false v v' h same = absurd (false≢true (h refl))
  unless_kept false false v v' h same = kept_one move v' v same

  same_lock : (x y : Stmt) → (token_at new.toks y.first).start ≡ move (token_at tree.toks x.first).start → SameAt move (lock_report new y) (lock_report tree x)
  unfolding lock_report
  same_lock x y e = record { code = refl; place = e }

  same_statement : (x y : Stmt) → (token_at new.toks y.first).start ≡ move (token_at tree.toks x.first).start → SameAt move (statement_report new y) (statement_report tree x)
  unfolding statement_report
  same_statement x y e = record { code = refl; place = e }

  both_kept : (p q p' q' : Bool) (x y : Stmt) → (p ≡ true → p' ≡ true) → (q ≡ true → q' ≡ true) → (token_at new.toks y.first).start ≡ move (token_at tree.toks x.first).start →
      K (both_reports p' q' new rules y) (both_reports p q tree rules x)
  both_kept p q p' q' x y f g e =
      kept_append move (lock_reports p' new rules y) (lock_reports p tree rules x) (statement_reports q' new rules y) (statement_reports q tree rules x)
      (kept_where move (has rules rule.RequireLockTimeout) (unless p' (lock_report new y)) (unless p (lock_report tree x)) (unless_kept p p' (lock_report tree x) (lock_report new y) f (same_lock x y e)))
      (kept_where move (has rules rule.RequireStatementTimeout) (unless q' (statement_report new y)) (unless q (statement_report tree x)) (unless_kept q q' (statement_report tree x) (statement_report new y) g (same_statement x y e)))

  first_is_slow : (i : ℕ) → is_first_slow tree i ≡ true → is_slow (stmt_at tree i) ≡ true
  first_is_slow i h = by (is_slow (stmt_at tree i)) _ h
    where
      by : (b c : Bool) → (b && c) ≡ true → b ≡ true
      by true c h = refl
      by false c h = h

  timeouts_kept : (i : ℕ) → K (timeouts_at new rules (a.at i)) (timeouts_at tree rules i)
  timeouts_kept i =
      subst (λ (b : Bool). K (cond b (both_reports (is_set new lock_timeout (a.at i)) (is_set new statement_timeout (a.at i)) new rules (stmt_at new (a.at i))) []) (timeouts_at tree rules i)) (sym (a.slows i))
      (by (is_first_slow tree i) refl)
    where
      by : (b : Bool) → is_first_slow tree i ≡ b →
          K (cond b (both_reports (is_set new lock_timeout (a.at i)) (is_set new statement_timeout (a.at i)) new rules (stmt_at new (a.at i))) [])
          (cond b (both_reports (is_set tree lock_timeout i) (is_set tree statement_timeout i) tree rules (stmt_at tree i)) [])
      by false e = tt
      by true e =
          both_kept (is_set tree lock_timeout i) (is_set tree statement_timeout i) (is_set new lock_timeout (a.at i)) (is_set new statement_timeout (a.at i)) (stmt_at tree i) (stmt_at new (a.at i))
          (a.set_is lock_timeout i) (a.set_is statement_timeout i) ((a.like i).place (first_is_slow i e))

  timeouts_table : K (timeouts new rules settings) (timeouts tree rules settings)
  timeouts_table =
      a.pieces (timeouts_at new rules) (timeouts_at tree rules)
      (All-weaker (Quiet new) (λ k. timeouts_at new rules k ≡ [])
      (λ k q. ap (λ (b : Bool). cond b (both_reports (is_set new lock_timeout k) (is_set new statement_timeout k) new rules (stmt_at new k)) []) q.not_slow) a.more a.quiet) timeouts_kept

  -- ---- column types

  abbrev LeftIn : Table → Type 0
  LeftIn table = Left exact move gone (table new rules settings) (table tree rules settings)

  abbrev TypesLeft : TypeRule → Type 0
  TypesLeft r = LeftIn (type_table r)

  type_tables : (rs : List TypeRule) → ((i : ℕ) → All (λ r. Left exact move gone (reports_on r new (column_types (stmt_at new (a.at i)))) (reports_on r tree (column_types (stmt_at tree i)))) rs) → All TypesLeft rs
  type_tables [] h = All-nil TypesLeft
  type_tables (r ∷ rs) h =
      All-cons TypesLeft r rs
      (one_left r.code (type_reports r)
      (All-weaker (Quiet new) (λ k. reports_on r new (column_types (stmt_at new k)) ≡ []) (λ k q. ap (reports_on r new) q.types_none) a.more a.quiet)
      (λ i. All-head (λ r. Left exact move gone (reports_on r new (column_types (stmt_at new (a.at i)))) (reports_on r tree (column_types (stmt_at tree i)))) r rs (h i)))
      (type_tables rs (λ i. All-tail (λ r. Left exact move gone (reports_on r new (column_types (stmt_at new (a.at i)))) (reports_on r tree (column_types (stmt_at tree i)))) r rs (h i)))

  builds_left : LeftIn builds
  builds_left =
      one_left rule.RequireConcurrentIndexCreation builds_of (All-weaker (Quiet new) (λ k. builds_of settings new k (stmt_at new k) ≡ []) (λ k q. q.builds_none settings) a.more a.quiet)
      (λ i. (a.like i).builds_are settings i (a.at i) (λ path. a.news path i))

  dropped_left : LeftIn dropped
  dropped_left =
      one_left rule.RequireConcurrentIndexDeletion deletions_of (All-weaker (Quiet new) (λ k. deletions_of settings new k (stmt_at new k) ≡ []) (λ k q. q.drops_none settings) a.more a.quiet)
      (λ i. (a.like i).drops_are settings i (a.at i))

  rebuilt_left : LeftIn rebuilt
  rebuilt_left =
      one_left rule.RequireConcurrentReindex rebuilds_of (All-weaker (Quiet new) (λ k. rebuilds_of settings new k (stmt_at new k) ≡ []) (λ k q. q.rebuilds_none settings) a.more a.quiet)
      (λ i. (a.like i).rebuilds_are settings i (a.at i))

  types_left : All TypesLeft type_rules
  types_left = type_tables type_rules (λ i. (a.like i).types_are)

  map_left : (rs : List TypeRule) → All TypesLeft rs → All LeftIn (map type_table rs)
  map_left [] h = All-nil LeftIn
  map_left (r ∷ rs) h = All-cons LeftIn (type_table r) (map type_table rs) (All-head TypesLeft r rs h) (map_left rs (All-tail TypesLeft r rs h))

  -- of the rules whose fixes are followed nothing is gone but at one place
  pub tables_left : All LeftIn followed_tables
  tables_left =
      All-cons LeftIn builds (dropped ∷ rebuilt ∷ map type_table type_rules) builds_left
      (All-cons LeftIn dropped (rebuilt ∷ map type_table type_rules) dropped_left
      (All-cons LeftIn rebuilt (map type_table type_rules) rebuilt_left (map_left type_rules types_left)))

  -- ---- all tables

  abbrev Keeps : Table → Type 0
  Keeps table = K (table new rules settings) (table tree rules settings)

  kept_in : (table : Table) → LeftIn table → Keeps table
  kept_in table h = left_kept exact move gone (table new rules settings) (table tree rules settings) h

  detached_kept : Keeps detached
  detached_kept =
      one_table rule.RequireConcurrentPartitionDetach detachments_of (All-weaker (Quiet new) (λ k. reports_of_require_concurrent_partition_detach new (stmt_at new k) ≡ []) (λ k q. q.detaches_none) a.more a.quiet)
      (λ i. (a.like i).detaches_are)

  all_types : (rs : List TypeRule) (rest : List Table) → All TypesLeft rs → All Keeps rest → All Keeps (map type_table rs ++ rest)
  all_types [] rest h k = k
  all_types (r ∷ rs) rest h k = All-cons Keeps (type_table r) (map type_table rs ++ rest) (kept_in (type_table r) (All-head TypesLeft r rs h)) (all_types rs rest (All-tail TypesLeft r rs h) k)

  pub tables_kept : All Keeps listed_tables
  tables_kept =
      All-cons Keeps builds (dropped ∷ rebuilt ∷ detached ∷ (map type_table type_rules ++ timeouts ∷ [])) (kept_in builds builds_left)
      (All-cons Keeps dropped (rebuilt ∷ detached ∷ (map type_table type_rules ++ timeouts ∷ [])) (kept_in dropped dropped_left)
      (All-cons Keeps rebuilt (detached ∷ (map type_table type_rules ++ timeouts ∷ [])) (kept_in rebuilt rebuilt_left)
      (All-cons Keeps detached (map type_table type_rules ++ timeouts ∷ []) detached_kept
      (all_types type_rules (timeouts ∷ []) types_left (All-cons Keeps timeouts [] timeouts_table (All-nil Keeps))))))
