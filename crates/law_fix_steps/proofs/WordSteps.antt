-- The fixes that put the word CONCURRENTLY into a text are steps.
use Rattle.std.proofs.Common.{◌≡◌, ℕ, ◌<◌, ◌⊎◌, ◌^◌, inl, inr, true, false, List, [], ◌∷◌, ◌++◌, length, sym, refl, ap, ◌∙◌, subst, Option, Some, None}
use Rattle.std.proofs.lemmas.List.Elements.{All-nil, All-weaker}
use Rattle.std.specs.Prelude.{All}
use Rattle.law_type_fixes.specs.sql_token.Token.{Text}
use Rattle.law_type_fixes.specs.sql_token.declared.token.Span.{Span}
use Rattle.law_type_fixes.specs.sql_tree.declared.kinds.StmtKind.TheVariants as stmt
use Rattle.law_type_fixes.specs.sql_tree.declared.nodes.Action.{Action}
use Rattle.law_type_fixes.specs.sql_tree.declared.nodes.Body.{Body}
use Rattle.law_type_fixes.specs.sql_tree.declared.nodes.Body.TheVariants as body
use Rattle.law_type_fixes.specs.sql_tree.declared.nodes.Stmt.{Stmt}
use Rattle.law_type_fixes.specs.sql_tree.Nodes.{actions_in}
use Rattle.law_type_fixes.specs.sql_tree.Statement.{Tree, IsTree}
use Rattle.law_type_fixes.specs.law_edit_inserts.Built.{concurrently_tree, detached_stmt, concurrent_stmt, DetachTakesConcurrently, TakesConcurrently}
use Rattle.law_type_fixes.proofs.of_law_edit_inserts.DetachFields.{detach_has_path, detach_reads}
use Rattle.law_type_fixes.proofs.of_law_edit_inserts.Fields.{concurrently_reads}
use Rattle.law_type_fixes.specs.lint_base.declared.rule.Rule.TheVariants as rule
use Rattle.law_type_fixes.specs.lint_base.declared.settings.LinterSettings.{LinterSettings}
use Rattle.law_type_fixes.specs.lint_base.declared.violation.Violation.{Violation}
use Rattle.law_type_fixes.specs.lint_base.RuleSets.{Rules, has}
use Rattle.law_type_fixes.specs.lint_node.Plain.{is_plain_detach}
use Rattle.law_type_fixes.specs.lint_node.Same.{same_kind}
use Rattle.law_type_fixes.specs.lint_pass.RuleLaws.{one_all, pieces_all, unless_all, where_all}
use Rattle.law_type_fixes.specs.lint_pass.RuleTables.{enabled_reports}
use Rattle.law_type_fixes.specs.lint_pass.Those.{those}
use Rattle.law_type_fixes.specs.lint_transaction.Transaction.{no_stmt, stmt_at}
use Rattle.law_type_fixes.specs.pass_concurrent.Concurrently.{concurrently_after}
use Rattle.law_type_fixes.specs.pass_concurrent.RequireConcurrentPartitionDetach.{reports_of_require_concurrent_partition_detach, end_of, report}
use Rattle.law_type_fixes.specs.law_fixes.Mended.{FixMends, FixesMend, Reports, Table, WithWord, table_by, builds, builds_of, deletions_of, detached, detachments_of, dropped, rebuilds_of, rebuilt}
use Rattle.law_type_fixes.specs.law_fixes.Moved.{start_moved}
use Rattle.law_type_fixes.specs.law_fixes.Stays.{inserted, place_of}
use Rattle.law_type_fixes.proofs.of_law_fixes.Detached.{Alters, alters, build, detached_mend, is_plain, path_end, table_kind, those_in, where_those}
use Rattle.law_type_fixes.proofs.of_law_fixes.Detached.Alters.{alter, other}
use Rattle.law_type_fixes.proofs.of_law_fixes.Fixed.{At, at_or_none, builds_mend, dropped_mend, inside_some, puts_word, rebuilt_mend}
use Rattle.law_type_fixes.proofs.of_law_fixes.Statements.{inside}
use Rattle.law_type_fixes.proofs.of_law_fixes.WordRules.{Same, added, builds_are, deletion_rule, deletions_are, index_rule, is_deletion_rule, is_index_rule, is_reindex_rule, rebuilds_are, reindex_rule, table_is}
use Rattle.law_type_fixes.proofs.of_law_fixes.Words.{IsWordRule, Target, WordRule, is_excused, kept_is, word_report, word_reports, word_reports_at, word_reports_by, word_table}
use Rattle.law_type_fixes.specs.Rules.{type_table, ints, smallints, timestamps, varchars}
use Rattle.law_fix_steps.specs.Step.{timeouts}
use Rattle.law_fix_steps.proofs.Fits.{Anywhere, LeavesIf, StepsIf}
use Rattle.law_fix_steps.proofs.Comments.{word_ignores, word_says}
use Rattle.law_fix_steps.proofs.Concurrently.{detach_aligned, word_aligned}
use Rattle.law_fix_steps.proofs.Steps.{FixAligns, FixSilences, mended_silences, table_leaves, table_steps}

-- ---- CREATE INDEX, DROP INDEX and REINDEX

word_aligns : (r : WordRule) (tree : Tree) (settings : LinterSettings) (before : List Stmt) (s : Stmt) (after : List Stmt) (n : ℕ) → IsTree tree → tree.stmts ≡ before ++ s ∷ after → TakesConcurrently n s →
    FixAligns true tree settings (Anywhere tree) (word_report r tree s n)
word_aligns r tree settings before s after n is parts takes f fixed fits short =
    let add = added tree before s after n is parts takes in
    let i = inside tree before s after n (concurrent_stmt n s) add in
    let puts = puts_word tree n f is.lexed i.within (inside_some fixed) in
    let reads = concurrently_reads tree before s after n is parts takes (subst (λ (x : Text). length x < 2 ^ 32) puts.text short) in
    record {
      new = concurrently_tree tree n before (concurrent_stmt n s) after;
      text = sym puts.text;
      is = reads.is;
      move = start_moved (place_of tree n) inserted;
      place = puts.place;
      aligned = word_aligned tree before s after n is parts takes true settings.assume_in_transaction;
      comments = word_says tree before (concurrent_stmt n s) after n is i.within;
      ignores = word_ignores tree before (concurrent_stmt n s) after n is i.within;
    }

words_align : (r : WordRule) → IsWordRule r → (tree : Tree) (rules : Rules) (settings : LinterSettings) → IsTree tree → All (FixAligns true tree settings (Anywhere tree)) (word_table r tree rules settings)
words_align r law tree rules settings is =
    pieces_all Goes (word_reports_at r tree rules settings) (length tree.stmts)
    (λ j. where_all Goes (has rules r.code) (word_reports r settings tree j (stmt_at tree j)) (λ enabled. each j (at_or_none tree.stmts j)))
  where
    Goes : Violation → Type 0
    Goes v = FixAligns true tree settings (Anywhere tree) v

    each : (j : ℕ) → At tree.stmts j ⊎ (stmt_at tree j ≡ no_stmt) → All Goes (word_reports r settings tree j (stmt_at tree j))
    each j (inr e) =
        subst (λ (t : Option Target). All Goes (word_reports_by r settings tree j (stmt_at tree j) t)) (sym (ap (λ (s : Stmt). r.target s.kind s.body) e ∙ kept_is r law no_stmt.kind)) (All-nil Goes)
    each j (inl a) = by (r.target (stmt_at tree j).kind (stmt_at tree j).body) refl
      where
        by : (t : Option Target) → r.target (stmt_at tree j).kind (stmt_at tree j).body ≡ t → All Goes (word_reports_by r settings tree j (stmt_at tree j) t)
        by None h = All-nil Goes
        by (Some t) h =
            unless_all Goes (is_excused settings tree j t.table) (word_report r tree (stmt_at tree j) t.word ∷ [])
            (one_all Goes (word_report r tree (stmt_at tree j) t.word)
            (word_aligns r tree settings a.before (stmt_at tree j) a.after t.word is a.parts (law.takes (stmt_at tree j) t h)))

tables_align : (r : WordRule) → IsWordRule r → (reports : Reports) → Same r reports → (tree : Tree) (rules : Rules) (settings : LinterSettings) → IsTree tree →
    All (FixAligns true tree settings (Anywhere tree)) (table_by r.code reports tree rules settings)
tables_align r law reports same tree rules settings is =
    subst (λ (vs : List Violation). All (FixAligns true tree settings (Anywhere tree)) vs) (sym (table_is r reports same tree rules settings)) (words_align r law tree rules settings is)

silences : (table : Table) → FixesMend table → (tree : Tree) (rules : Rules) (settings : LinterSettings) → IsTree tree → All (FixSilences table tree rules settings (Anywhere tree)) (table tree rules settings)
silences table law tree rules settings is =
    All-weaker (FixMends table tree rules settings) (FixSilences table tree rules settings (Anywhere tree))
    (λ v h f fixed fits short new text new_is. mended_silences table tree rules settings v f.edits (WithWord tree f.edits) (h f fixed short) new text new_is) (table tree rules settings) (law tree rules settings is)

abbrev type_tables : List Table
type_tables = type_table varchars ∷ type_table timestamps ∷ type_table ints ∷ type_table smallints ∷ timeouts ∷ []

pub builds_leave : LeavesIf Anywhere builds
builds_leave tree rules settings is =
    table_leaves [] builds (dropped ∷ rebuilt ∷ detached ∷ type_tables) refl tree rules settings (Anywhere tree) (tables_align index_rule is_index_rule builds_of builds_are tree rules settings is) (silences builds builds_mend tree rules settings is)

pub dropped_leave : LeavesIf Anywhere dropped
dropped_leave tree rules settings is =
    table_leaves (builds ∷ []) dropped (rebuilt ∷ detached ∷ type_tables) refl tree rules settings (Anywhere tree) (tables_align deletion_rule is_deletion_rule deletions_of deletions_are tree rules settings is)
    (silences dropped dropped_mend tree rules settings is)

pub rebuilt_leave : LeavesIf Anywhere rebuilt
rebuilt_leave tree rules settings is =
    table_leaves (builds ∷ dropped ∷ []) rebuilt (detached ∷ type_tables) refl tree rules settings (Anywhere tree) (tables_align reindex_rule is_reindex_rule rebuilds_of rebuilds_are tree rules settings is)
    (silences rebuilt rebuilt_mend tree rules settings is)

-- ---- DETACH PARTITION

detach_aligns : (tree : Tree) (settings : LinterSettings) (before : List Stmt) (s : Stmt) (after : List Stmt) (n : ℕ) (path : Option Span) (earlier : List Action) (b : Action) (later : List Action) →
    IsTree tree → tree.stmts ≡ before ++ s ∷ after → DetachTakesConcurrently n s path earlier b later → concurrently_after tree (end_of b.path) ≡ concurrently_after tree n → FixAligns false tree settings (Anywhere tree) (report tree b)
unfolding report
detach_aligns tree settings before s after n path earlier b later is parts takes same f fixed fits short =
    let i = inside tree before s after n (detached_stmt n s path earlier b later) (build tree before s after n path earlier b later is parts takes) in
    let puts = puts_word tree n f is.lexed i.within (sym same ∙ inside_some fixed) in
    let reads = detach_reads tree before s after n path earlier b later is parts takes (subst (λ (x : Text). length x < 2 ^ 32) puts.text short) in
    record {
      new = concurrently_tree tree n before (detached_stmt n s path earlier b later) after;
      text = sym puts.text;
      is = reads.is;
      move = start_moved (place_of tree n) inserted;
      place = puts.place;
      aligned = detach_aligned tree before s after n path earlier b later is parts takes (report tree b).text_range.start settings.assume_in_transaction;
      comments = word_says tree before (detached_stmt n s path earlier b later) after n is i.within;
      ignores = word_ignores tree before (detached_stmt n s path earlier b later) after n is i.within;
    }

detaches_align : (tree : Tree) (rules : Rules) (settings : LinterSettings) → IsTree tree → All (FixAligns false tree settings (Anywhere tree)) (detached tree rules settings)
detaches_align tree rules settings is =
    pieces_all Goes (enabled_reports rule.RequireConcurrentPartitionDetach (λ i. detachments_of settings tree i (stmt_at tree i)) rules) (length tree.stmts)
    (λ j. where_all Goes (has rules rule.RequireConcurrentPartitionDetach) (reports_of_require_concurrent_partition_detach tree (stmt_at tree j)) (λ e. each j (at_or_none tree.stmts j)))
  where
    Goes : Violation → Type 0
    Goes v = FixAligns false tree settings (Anywhere tree) v

    one : (before : List Stmt) (s : Stmt) (after : List Stmt) → tree.stmts ≡ before ++ s ∷ after → s.kind ≡ stmt.AlterTable → (path : Option Span) (actions : List Action) → s.body ≡ body.Alter path actions →
        (earlier : List Action) (c : Action) (later : List Action) → actions ≡ earlier ++ c ∷ later → is_plain_detach c ≡ true → Goes (report tree c)
    one before s after parts kind path actions is_body earlier c later cut plain =
        let p = is_plain c plain in
        let body_is : s.body ≡ body.Alter path (earlier ++ c ∷ later) = is_body ∙ ap (λ (l : List Action). body.Alter path l) cut in
        let end = detach_has_path tree before s after path earlier c later is parts kind body_is p.kind p.none in
        detach_aligns tree settings before s after end.0 path earlier c later is parts (record { kind = kind; has = body_is; detaches = p.kind; none = p.none; ends = end.1.0 })
        (ap (concurrently_after tree) (path_end c.path end.0 end.1.0))

    by_body : (before : List Stmt) (s : Stmt) (after : List Stmt) → tree.stmts ≡ before ++ s ∷ after → s.kind ≡ stmt.AlterTable → Alters s.body → All Goes (those is_plain_detach (report tree) (actions_in s.body))
    by_body before s after parts kind (alter path actions is_body) =
        subst (λ (x : Body). All Goes (those is_plain_detach (report tree) (actions_in x))) (sym is_body)
        (those_in Goes is_plain_detach (report tree) actions [] actions refl (one before s after parts kind path actions is_body))
    by_body before s after parts kind (other none) = subst (λ (l : List Action). All Goes (those is_plain_detach (report tree) l)) (sym none) (All-nil Goes)

    each : (j : ℕ) → At tree.stmts j ⊎ (stmt_at tree j ≡ no_stmt) → All Goes (reports_of_require_concurrent_partition_detach tree (stmt_at tree j))
    each j (inr e) = subst (λ (x : Stmt). All Goes (reports_of_require_concurrent_partition_detach tree x)) (sym e) (where_those Goes (same_kind no_stmt.kind stmt.AlterTable) is_plain_detach (report tree) [] (λ h. All-nil Goes))
    each j (inl at) =
        where_those Goes (same_kind (stmt_at tree j).kind stmt.AlterTable) is_plain_detach (report tree) (actions_in (stmt_at tree j).body)
        (λ h. by_body at.before (stmt_at tree j) at.after at.parts (table_kind (stmt_at tree j).kind h) (alters (stmt_at tree j).body))

pub detached_step : StepsIf Anywhere detached
detached_step tree rules settings is =
    table_steps (builds ∷ dropped ∷ rebuilt ∷ []) detached type_tables refl false tree rules settings (Anywhere tree) (detaches_align tree rules settings is) (silences detached detached_mend tree rules settings is)
