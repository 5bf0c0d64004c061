-- The rules on indexes that are built, dropped or rebuilt, as data.
use Rattle.std.proofs.Common.{◌≡◌, ℕ, ◌+◌, Bool, true, false, cond, List, [], ◌∷◌, ◌++◌, map, length, sym, refl, ap, ◌∙◌, subst, Option, Some, None}
use Rattle.std.proofs.Common.{rules}
use Rattle.std.specs.Prelude.{◌&&◌, not, codes, if◌then◌else◌}
use Rattle.std.specs.Option.{option_map}
use denote.Enum.Bare.{same_true}
use Rattle.law_edit_inserts.specs.sql_token.declared.token.Span.{Span}
use Rattle.law_edit_inserts.specs.sql_tree.contracts.kinds.StmtKind as kinds
use Rattle.law_edit_inserts.specs.sql_tree.declared.kinds.StmtKind.{StmtKind}
use Rattle.law_edit_inserts.specs.sql_tree.declared.kinds.StmtKind.TheVariants as stmt
use Rattle.law_edit_inserts.specs.sql_tree.declared.nodes.Body.{Body}
use Rattle.law_edit_inserts.specs.sql_tree.declared.nodes.Body.TheVariants as body
use Rattle.law_edit_inserts.specs.sql_tree.declared.nodes.Stmt.{Stmt}
use Rattle.law_edit_inserts.specs.sql_tree.Statement.{Tree, IsTree}
use Rattle.law_edit_inserts.specs.law_renumber.Moved.{span_moved, body_moved, stmt_moved}
use Rattle.law_edit_inserts.specs.Apart.{outside}
use Rattle.law_edit_inserts.specs.Built.{room_after, concurrent_stmt, TakesConcurrently}
use Rattle.law_edit_inserts.specs.Built.TakesConcurrently.{index, dropped, rebuilt}
use Rattle.law_edit_inserts.specs.Concurrently.{concurrent_body}
use Rattle.law_edit_inserts.proofs.Apart.{statements_apart}
use Rattle.pass_concurrent.specs.lint_base.declared.rule.Rule.TheVariants as rule
use Rattle.pass_concurrent.specs.lint_base.declared.settings.LinterSettings.{LinterSettings}
use Rattle.pass_concurrent.specs.lint_base.RuleSets.{Rules, has}
use Rattle.pass_concurrent.specs.lint_transaction.Earlier.{concat_below}
use Rattle.pass_concurrent.specs.lint_transaction.Transaction.{ends_by, chains_by, created_by, stmt_at}
use Rattle.pass_concurrent.specs.lint_node.Plain.{drops_plainly, is_system, rebuilds_plainly}
use Rattle.pass_concurrent.specs.lint_node.Same.{same_kind}
use Rattle.pass_concurrent.specs.RequireConcurrentIndexCreation as build
use Rattle.pass_concurrent.specs.RequireConcurrentIndexDeletion as drops
use Rattle.pass_concurrent.specs.RequireConcurrentReindex as reindexes
use Rattle.law_fixes.specs.Mended.{Reports, table_by, builds_of, deletions_of, rebuilds_of}
use Rattle.law_fixes.proofs.Statements.{Added, Idle}
use Rattle.law_fixes.proofs.Words.{Target, WordRule, word_report, word_reports, word_reports_by, word_table, target_moved, IsWordRule}

-- ---- the three rules

-- CREATE INDEX without CONCURRENTLY, except on a new table
abbrev pub index_target : StmtKind → Body → Option Target
index_target kind (body.Index word unique None guarded name path) = Some (record { word = word; table = Some path })
index_target kind _ = None

abbrev pub index_rule : WordRule
index_rule = record {
  code = rule.RequireConcurrentIndexCreation;
  message = codes "during normal index creation, table updates are blocked, but reads are still allowed";
  help = codes "use `concurrently` to avoid blocking writes";
  target = index_target;
}

-- DROP INDEX without CONCURRENTLY
abbrev pub drop_target : Bool → Body → Option Target
drop_target listed (body.Drop word false guarded paths) = if listed then Some (record { word = word; table = None }) else None
drop_target listed _ = None

abbrev pub deletion_target : StmtKind → Body → Option Target
deletion_target kind b = drop_target (same_kind kind stmt.DropIndex) b

abbrev pub deletion_rule : WordRule
deletion_rule = record {
  code = rule.RequireConcurrentIndexDeletion;
  message = codes "a normal `drop index` acquires an `access exclusive` lock on the table, blocking other accesses until the index drop can complete";
  help = codes "drop the index `concurrently`";
  target = deletion_target;
}

-- REINDEX that is not concurrent, but for REINDEX SYSTEM
abbrev pub reindex_target : StmtKind → Body → Option Target
reindex_target kind (body.Reindex found word false valued path) = if is_system found then None else Some (record { word = word; table = None })
reindex_target kind _ = None

abbrev pub reindex_rule : WordRule
reindex_rule = record {
  code = rule.RequireConcurrentReindex;
  message = codes "reindexing a table or index without `concurrently` blocks reads and writes";
  help = codes "use `concurrently` to avoid blocking reads and writes";
  target = reindex_target;
}

drop_kind : (kind : StmtKind) → same_kind kind stmt.DropIndex ≡ true → kind ≡ stmt.DropIndex
unfolding same_kind
drop_kind kind h = same_true kinds.the_type (search rules) kind stmt.DropIndex h

-- ---- each meets what the law asks

target_of : {p q : Target} → Some p ≡ Some q → p ≡ q
target_of e = cc

no_target : (t : Target) → None ≡ Some t → ⊥
no_target t e = cc

pub is_index_rule : IsWordRule index_rule
is_index_rule = record { moved = moved; with_concurrently = with_concurrently; takes = λ s t e. takes s s.body refl t e }
  where
    moved : (f : ℕ → ℕ) (kind : StmtKind) (b : Body) → index_rule.target kind (body_moved f b) ≡ option_map (target_moved f) (index_rule.target kind b)
    moved f kind (body.Index w u None g name path) = refl
    moved f kind (body.Index w u (Some c) g name path) = refl
    moved f kind b = refl

    with_concurrently : (m : ℕ) (kind : StmtKind) (b : Body) → index_rule.target kind (concurrent_body m b) ≡ None
    with_concurrently m kind (body.Index w u c g name path) = refl
    with_concurrently m kind b = refl

    takes : (s : Stmt) (b : Body) → s.body ≡ b → (t : Target) → index_rule.target s.kind b ≡ Some t → TakesConcurrently t.word s
    takes s (body.Index w u None g name path) has t e = subst (λ (x : ℕ). TakesConcurrently x s) (ap (λ (x : Target). x.word) (target_of e)) (index u g name path has)
    takes s b has t e = absurd (no_target t e)

pub is_deletion_rule : IsWordRule deletion_rule
is_deletion_rule = record { moved = moved; with_concurrently = with_concurrently; takes = λ s t e. takes s s.body refl t e }
  where
    moved : (f : ℕ → ℕ) (kind : StmtKind) (b : Body) → deletion_rule.target kind (body_moved f b) ≡ option_map (target_moved f) (deletion_rule.target kind b)
    moved f kind (body.Drop w true g paths) = refl
    moved f kind (body.Drop w false g paths) = by (same_kind kind stmt.DropIndex)
      where
        by : (b : Bool) → cond b (Some (record { word = f w; table = None })) None ≡ option_map (target_moved f) (cond b (Some (record { word = w; table = None })) None)
        by true = refl
        by false = refl
    moved f kind b = refl

    with_concurrently : (m : ℕ) (kind : StmtKind) (b : Body) → deletion_rule.target kind (concurrent_body m b) ≡ None
    with_concurrently m kind (body.Drop w c g paths) = refl
    with_concurrently m kind b = refl

    takes : (s : Stmt) (b : Body) → s.body ≡ b → (t : Target) → deletion_rule.target s.kind b ≡ Some t → TakesConcurrently t.word s
    takes s (body.Drop w false g paths) has t e = by (same_kind s.kind stmt.DropIndex) refl e
      where
        by : (b : Bool) → same_kind s.kind stmt.DropIndex ≡ b → cond b (Some (record { word = w; table = None })) None ≡ Some t → TakesConcurrently t.word s
        by true h e = subst (λ (x : ℕ). TakesConcurrently x s) (ap (λ (x : Target). x.word) (target_of e)) (dropped g paths (drop_kind s.kind h) has)
        by false h e = absurd (no_target t e)
    takes s b has t e = absurd (no_target t e)

pub is_reindex_rule : IsWordRule reindex_rule
is_reindex_rule = record { moved = moved; with_concurrently = with_concurrently; takes = λ s t e. takes s s.body refl t e }
  where
    moved : (f : ℕ → ℕ) (kind : StmtKind) (b : Body) → reindex_rule.target kind (body_moved f b) ≡ option_map (target_moved f) (reindex_rule.target kind b)
    moved f kind (body.Reindex found w true valued path) = refl
    moved f kind (body.Reindex found w false valued path) = by (is_system found)
      where
        by : (b : Bool) → cond b None (Some (record { word = f w; table = None })) ≡ option_map (target_moved f) (cond b None (Some (record { word = w; table = None })))
        by true = refl
        by false = refl
    moved f kind b = refl

    with_concurrently : (m : ℕ) (kind : StmtKind) (b : Body) → reindex_rule.target kind (concurrent_body m b) ≡ None
    with_concurrently m kind (body.Reindex found w c valued path) = refl
    with_concurrently m kind b = refl

    takes : (s : Stmt) (b : Body) → s.body ≡ b → (t : Target) → reindex_rule.target s.kind b ≡ Some t → TakesConcurrently t.word s
    takes s (body.Reindex found w false valued path) has t e = by (is_system found) e
      where
        by : (b : Bool) → cond b None (Some (record { word = w; table = None })) ≡ Some t → TakesConcurrently t.word s
        by true e = absurd (no_target t e)
        by false e = subst (λ (x : ℕ). TakesConcurrently x s) (ap (λ (x : Target). x.word) (target_of e)) (rebuilt found valued path has)
    takes s b has t e = absurd (no_target t e)

-- ---- statements with the mark

-- the numbers of an index build
pub index_numbers : (g : ℕ → ℕ) (x : Stmt) (w : ℕ) (u : Bool) (c : Option ℕ) (gd : Bool) (name : Option ℕ) (path : Span) → x.body ≡ body.Index w u c gd name path → stmt_moved g x ≡ x →
    (g w ≡ w) × (span_moved g path ≡ path)
index_numbers g x w u c gd name path has fixed = by (sym (ap (λ (b : Body). body_moved g b) has) ∙ ap (λ (y : Stmt). y.body) fixed ∙ has)
  where
    by : body.Index (g w) u (option_map g c) gd (option_map g name) (span_moved g path) ≡ body.Index w u c gd name path → (g w ≡ w) × (span_moved g path ≡ path)
    by e = (cc, cc)

-- the number of the word that takes the mark
concurrently_number : (g : ℕ → ℕ) (x : Stmt) (w : ℕ) → TakesConcurrently w x → stmt_moved g x ≡ x → g w ≡ w
concurrently_number g x w (index u gd name path has) fixed = (index_numbers g x w u None gd name path has fixed).0
concurrently_number g x w (dropped gd paths kind has) fixed = by (sym (ap (λ (b : Body). body_moved g b) has) ∙ ap (λ (y : Stmt). y.body) fixed ∙ has)
  where
    by : body.Drop (g w) false gd (map (span_moved g) paths) ≡ body.Drop w false gd paths → g w ≡ w
    by e = cc
concurrently_number g x w (rebuilt found valued path has) fixed = by (sym (ap (λ (b : Body). body_moved g b) has) ∙ ap (λ (y : Stmt). y.body) fixed ∙ has)
  where
    by : body.Reindex found (g w) false valued (option_map (span_moved g) path) ≡ body.Reindex found w false valued path → g w ≡ w
    by e = cc

idle_old : (n : ℕ) (x : Stmt) → TakesConcurrently n x → Idle x.kind x.body
idle_old n x (index u gd name path has) = record { ends_is = ap ends_by has; chains_is = ap chains_by has; created_is = ap (λ (b : Body). created_by x.kind b) has }
idle_old n x (dropped gd paths kind has) = record { ends_is = ap ends_by has; chains_is = ap chains_by has; created_is = ap (λ (b : Body). created_by x.kind b) has }
idle_old n x (rebuilt found valued path has) = record { ends_is = ap ends_by has; chains_is = ap chains_by has; created_is = ap (λ (b : Body). created_by x.kind b) has }

idle_new : (n m : ℕ) (f : ℕ → ℕ) (x : Stmt) → TakesConcurrently n x → Idle x.kind (concurrent_body m (body_moved f x.body))
idle_new n m f x (index u gd name path has) =
    let e = ap (λ (b : Body). concurrent_body m (body_moved f b)) has in
    record { ends_is = ap ends_by e; chains_is = ap chains_by e; created_is = ap (λ (b : Body). created_by x.kind b) e }
idle_new n m f x (dropped gd paths kind has) =
    let e = ap (λ (b : Body). concurrent_body m (body_moved f b)) has in
    record { ends_is = ap ends_by e; chains_is = ap chains_by e; created_is = ap (λ (b : Body). created_by x.kind b) e }
idle_new n m f x (rebuilt found valued path has) =
    let e = ap (λ (b : Body). concurrent_body m (body_moved f b)) has in
    record { ends_is = ap ends_by e; chains_is = ap chains_by e; created_is = ap (λ (b : Body). created_by x.kind b) e }

-- a statement that takes the mark, and what it is then
pub added : (tree : Tree) (before : List Stmt) (s : Stmt) (after : List Stmt) (n : ℕ) → IsTree tree → tree.stmts ≡ before ++ s ∷ after → TakesConcurrently n s → Added tree before s after n (concurrent_stmt n s)
added tree before s after n is parts takes = record {
  is = is;
  parts = parts;
  number = (let apart = statements_apart tree before s after is parts in concurrently_number (outside s.first (s.last + 1)) s n takes apart.here_is);
  kind = refl;
  old = idle_old n s takes;
  new = idle_new n (n + 2) (room_after n) s takes;
}

-- ---- the tables of the passes

build_by : (settings : LinterSettings) (tree : Tree) (i : ℕ) (s : Stmt) (b : Body) → build.reports_by settings tree i s b ≡ word_reports_by index_rule settings tree i s (index_target s.kind b)
unfolding build.report
build_by settings tree i s (body.Index word unique None guarded name path) = refl
build_by settings tree i s (body.Index word unique (Some c) guarded name path) = refl
build_by settings tree i s b = refl

drop_by : (settings : LinterSettings) (tree : Tree) (i : ℕ) (s : Stmt) (listed : Bool) (b : Body) →
    cond (listed && drops_plainly b) (word_report deletion_rule tree s (drops.index_word b) ∷ []) [] ++ [] ≡ word_reports_by deletion_rule settings tree i s (drop_target listed b)
drop_by settings tree i s true (body.Drop word true guarded paths) = refl
drop_by settings tree i s false (body.Drop word true guarded paths) = refl
drop_by settings tree i s true (body.Drop word false guarded paths) = refl
drop_by settings tree i s false (body.Drop word false guarded paths) = refl
drop_by settings tree i s true b = refl
drop_by settings tree i s false b = refl

rebuild_by : (settings : LinterSettings) (tree : Tree) (i : ℕ) (s : Stmt) (b : Body) →
    cond (rebuilds_plainly b) (word_report reindex_rule tree s (reindexes.target_word b) ∷ []) [] ++ [] ≡ word_reports_by reindex_rule settings tree i s (reindex_target s.kind b)
rebuild_by settings tree i s (body.Reindex found word true valued path) = refl
rebuild_by settings tree i s (body.Reindex found word false valued path) = by (is_system found)
  where
    by : (b : Bool) → cond (not b) (word_report reindex_rule tree s word ∷ []) [] ++ [] ≡ word_reports_by reindex_rule settings tree i s (cond b None (Some (record { word = word; table = None })))
    by true = refl
    by false = refl
rebuild_by settings tree i s b = refl

pub builds_are : (settings : LinterSettings) (tree : Tree) (i : ℕ) (s : Stmt) → builds_of settings tree i s ≡ word_reports index_rule settings tree i s
builds_are settings tree i s = build_by settings tree i s s.body

pub deletions_are : (settings : LinterSettings) (tree : Tree) (i : ℕ) (s : Stmt) → deletions_of settings tree i s ≡ word_reports deletion_rule settings tree i s
unfolding drops.report
deletions_are settings tree i s = drop_by settings tree i s (same_kind s.kind stmt.DropIndex) s.body

pub rebuilds_are : (settings : LinterSettings) (tree : Tree) (i : ℕ) (s : Stmt) → rebuilds_of settings tree i s ≡ word_reports reindex_rule settings tree i s
unfolding reindexes.report
rebuilds_are settings tree i s = rebuild_by settings tree i s s.body

abbrev pub Same : WordRule → Reports → Type 0
Same r reports = (settings : LinterSettings) (tree : Tree) (i : ℕ) (s : Stmt) → reports settings tree i s ≡ word_reports r settings tree i s

pub table_is : (r : WordRule) (reports : Reports) → Same r reports → (tree : Tree) (rules : Rules) (settings : LinterSettings) → table_by r.code reports tree rules settings ≡ word_table r tree rules settings
table_is r reports same tree rules settings = λ i. concat_below (λ j. cond (has rules r.code) (same settings tree j (stmt_at tree j) i) []) (length tree.stmts)
