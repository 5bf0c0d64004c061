-- A text has no more reports of a listed table than tokens, or twice as many.
use Rattle.std.proofs.Common.{◌≡◌, ℕ, suc, ◌+◌, ◌<◌, ◌≤◌, Bool, true, false, cond, List, [], ◌∷◌, ◌++◌, map, length, length-append, append_assoc, sym, refl, ap, ◌∙◌, subst, arith, Option, Some, None}
use Rattle.std.proofs.lemmas.List.{length-map}
use Rattle.std.proofs.lemmas.List.Elements.{All-nil, All-cons, All-weaker}
use Rattle.std.specs.Prelude.{All}
use Rattle.std.specs.List.{flat_map}
use Rattle.law_type_fixes.proofs.of_sql_token.Boundaries.{tokens_few}
use Rattle.law_type_fixes.specs.sql_token.declared.terminal.Terminal.{Terminal}
use Rattle.law_type_fixes.specs.sql_tree.declared.kinds.StmtKind.TheVariants as stmt
use Rattle.law_type_fixes.specs.sql_tree.declared.nodes.Action.{Action}
use Rattle.law_type_fixes.specs.sql_tree.declared.nodes.Body.{Body}
use Rattle.law_type_fixes.specs.sql_tree.declared.nodes.Body.TheVariants as body
use Rattle.law_type_fixes.specs.sql_tree.declared.nodes.ColType.{ColType}
use Rattle.law_type_fixes.specs.sql_tree.declared.nodes.Stmt.{Stmt}
use Rattle.law_type_fixes.specs.sql_tree.Nodes.{action_starts, actions_in, statement_starts, types_in}
use Rattle.law_type_fixes.specs.sql_tree.Path.{path_cuts}
use Rattle.law_type_fixes.specs.sql_tree.Statement.{Tree, IsTree, statement}
use Rattle.law_type_fixes.specs.law_renumber.Moved.{action_moved}
use Rattle.law_type_fixes.proofs.of_law_renumber.NodeOrder.{actions_ascend, statements_ascend, tree_up}
use Rattle.law_type_fixes.proofs.of_law_renumber.Ordered.{Numbered, Up, up_lower}
use Rattle.law_type_fixes.proofs.of_law_renumber.There.{IfThere}
use Rattle.law_type_fixes.specs.law_edit_inserts.Apart.{outside}
use Rattle.law_type_fixes.proofs.of_law_edit_inserts.Apart.{stays_within, statements_apart}
use Rattle.law_type_fixes.specs.lint_base.declared.rule.Rule.{Rule}
use Rattle.law_type_fixes.specs.lint_base.declared.rule.Rule.TheVariants as rule
use Rattle.law_type_fixes.specs.lint_base.declared.settings.LinterSettings.{LinterSettings}
use Rattle.law_type_fixes.specs.lint_base.declared.violation.Violation.{Violation}
use Rattle.law_type_fixes.specs.lint_base.RuleSets.{Rules, has}
use Rattle.law_type_fixes.specs.lint_node.ColumnTypes.{column_types}
use Rattle.law_type_fixes.specs.lint_node.Plain.{is_plain_detach, is_plain_drop, is_plain_reindex}
use Rattle.law_type_fixes.specs.lint_node.Same.{same_kind}
use Rattle.law_type_fixes.specs.lint_pass.RuleTables.{enabled_reports}
use Rattle.law_type_fixes.specs.lint_transaction.Transaction.{no_stmt, is_new, stmt_at}
use Rattle.law_type_fixes.specs.pass_concurrent.RequireConcurrentIndexCreation as build
use Rattle.law_type_fixes.specs.pass_concurrent.RequireConcurrentIndexDeletion as drops
use Rattle.law_type_fixes.specs.pass_concurrent.RequireConcurrentPartitionDetach as detaches
use Rattle.law_type_fixes.specs.pass_concurrent.RequireConcurrentReindex as reindexes
use Rattle.law_type_fixes.specs.pass_session.RequireTimeoutSettings.{both_reports, is_first_slow, is_set, lock_report, lock_reports, lock_timeout, statement_report, statement_reports, statement_timeout, timeouts_at, unless}
use Rattle.law_type_fixes.specs.law_fixes.Mended.{Reports, table_by, builds_of, deletions_of, rebuilds_of, detachments_of, builds, dropped, rebuilt, detached}
use Rattle.law_type_fixes.proofs.of_law_fixes.Detached.{stmt_actions_fixed}
use Rattle.law_type_fixes.specs.Rules.{TypeRule, type_reports, type_table, ints, smallints, timestamps, varchars}
use Rattle.law_type_fixes.proofs.Bodies.{statement_walk}
use Rattle.law_type_fixes.proofs.ColumnTypes.{types_ranged}
use Rattle.law_type_fixes.proofs.Ranged.{Ranged, walk_ranged}
use Rattle.law_fix_steps.specs.Step.{LoadIsSmall, timeouts}
use Rattle.law_fix_steps.proofs.Counts.{fewer_below, flat_all_of, in_order, increasing_count, map_all, those_few, two_each, up_count, where_few}

-- ---- the numbers that statements hold

abbrev statement_start : Stmt → List ℕ
statement_start s = s.first ∷ []

abbrev starts_of_actions : Stmt → List ℕ
starts_of_actions s = map (λ a. a.first) (actions_in s.body)

abbrev starts_of_types : Stmt → List ℕ
starts_of_types s = map (λ t. t.whole.first) (column_types s)

-- each statement of a list at its place
each_at : {X : Type 0} (R : X → Type 0) (all pre xs : List X) → all ≡ pre ++ xs → ((pre : List X) (x : X) (post : List X) → all ≡ pre ++ x ∷ post → R x) → All R xs
each_at R all pre [] e each = All-nil R
each_at R all pre (x ∷ xs) e each = All-cons R x xs (each pre x xs e) (each_at R all (pre ++ x ∷ []) xs (e ∙ sym (append_assoc pre (x ∷ []) xs)) each)

module _ (tree : Tree) (is : IsTree tree) where
  abbrev n : ℕ
  n = length tree.toks

  abbrev Below : ℕ → Type 0
  Below x = x < n

  statements_few : length tree.stmts ≤ n
  statements_few =
      let few = increasing_count (statement_starts tree) n (statements_ascend tree is) (map_all Below (λ (s : Stmt). s.first) tree.stmts (each_at (λ s. s.first < n) tree.stmts [] tree.stmts refl one)) in
      omega (arith, few, length-map tree.stmts (λ (s : Stmt). s.first))
    where
      one : (before : List Stmt) (s : Stmt) (after : List Stmt) → tree.stmts ≡ before ++ s ∷ after → s.first < n
      one before s after parts =
          let a = statements_apart tree before s after is parts in
          let in_it = stays_within s.first (s.last + 1) s.first (ap (λ (x : Stmt). x.first) a.here_is) in
          let high = in_it.1 in let top = a.within in
          omega (arith, high, top)

  actions_few : length (action_starts tree) ≤ n
  actions_few =
      increasing_count (action_starts tree) n (actions_ascend tree is)
      (flat_all_of Below starts_of_actions tree.stmts (each_at (λ s. All Below (starts_of_actions s)) tree.stmts [] tree.stmts refl one))
    where
      one : (before : List Stmt) (s : Stmt) (after : List Stmt) → tree.stmts ≡ before ++ s ∷ after → All Below (starts_of_actions s)
      one before s after parts =
          let a = statements_apart tree before s after is parts in
          map_all Below (λ (c : Action). c.first) (actions_in s.body)
          (All-weaker (λ c. action_moved (outside s.first (s.last + 1)) c ≡ c) (λ c. c.first < n)
          (λ c e. (let in_it = stays_within s.first (s.last + 1) c.first (ap (λ (x : Action). x.first) e) in let high = in_it.1 in let top = a.within in omega (arith, high, top)))
          (actions_in s.body) (stmt_actions_fixed (outside s.first (s.last + 1)) s a.here_is))

  types_few : length (flat_map starts_of_types tree.stmts) ≤ n
  types_few =
      let few = up_count 0 (flat_map starts_of_types tree.stmts) (0 + n) (tree_up starts_of_types one tree is) in
      omega (arith, few)
    where
      ascend : (lo hi : ℕ) (types : List ColType) → Ranged lo hi types → Up lo (map (λ t. t.whole.first) types) hi
      ascend lo hi [] h = h
      ascend lo hi (t ∷ ts) h = let low = h.1.0.low in let some = h.1.0.some in (low, up_lower (suc t.whole.first) h.0 (map (λ (t : ColType). t.whole.first) ts) hi (omega (arith, some)) (ascend h.0 hi ts h.1.1))

      in_statement : (lo hi : ℕ) (o : Option Stmt) → IfThere (λ (s : Stmt). Ranged lo hi (types_in s.body)) o → IfThere (λ s. Up lo (starts_of_types s) hi) o
      in_statement lo hi None h = tt
      in_statement lo hi (Some s) h = ascend lo hi (column_types s) (types_ranged lo hi s h)

      one : (lo : ℕ) (t : Terminal) (ts : List Terminal) (hi : ℕ) → Numbered lo (t ∷ ts) hi → IfThere (λ s. Up lo (starts_of_types s) hi) (statement (t ∷ ts))
      one lo t ts hi h = in_statement lo hi (statement (t ∷ ts)) (statement_walk Ranged walk_ranged lo hi (t ∷ ts) h)

  -- ---- the tables

  module _ (rules : Rules) (settings : LinterSettings) where
    -- no more reports on a statement than numbers of it
    table_few : (code : Rule) (reports : Reports) (G : Stmt → List ℕ) → ((i : ℕ) (s : Stmt) → length (reports settings tree i s) ≤ length (G s)) → length (table_by code reports tree rules settings) ≤ length (flat_map G tree.stmts)
    table_few code reports G few =
        subst (λ (l : List ℕ). length (table_by code reports tree rules settings) ≤ length l) (in_order G no_stmt tree.stmts)
        (fewer_below (enabled_reports code (λ i. reports settings tree i (stmt_at tree i)) rules) (λ i. G (stmt_at tree i)) one (length tree.stmts))
      where
        one : (i : ℕ) → length (enabled_reports code (λ i. reports settings tree i (stmt_at tree i)) rules i) ≤ length (G (stmt_at tree i))
        one i =
            let all = where_few (has rules code) (reports settings tree i (stmt_at tree i)) in
            let here = few i (stmt_at tree i) in
            omega (arith, all, here)

    one_start : (ss : List Stmt) → length (flat_map statement_start ss) ≡ length ss
    one_start [] = refl
    one_start (s ∷ ss) = let rest = one_start ss in omega (arith, rest)

    -- a table with at most one report on a statement
    single_few : (code : Rule) (reports : Reports) → ((i : ℕ) (s : Stmt) → length (reports settings tree i s) ≤ 1) → length (table_by code reports tree rules settings) ≤ n
    single_few code reports few =
        let all = table_few code reports statement_start few in
        let count = one_start tree.stmts in
        let top = statements_few in
        omega (arith, all, count, top)

    builds_few : length (builds tree rules settings) ≤ n
    builds_few = single_few rule.RequireConcurrentIndexCreation builds_of (λ i s. of_body i s s.body)
      where
        unless_few : (b : Bool) (v : Violation) → length (cond b [] (v ∷ [])) ≤ 1
        unless_few true v = omega arith
        unless_few false v = omega arith

        of_body : (i : ℕ) (s : Stmt) (b : Body) → length (build.reports_by settings tree i s b) ≤ 1
        of_body i s (body.Index word unique None guarded name path) = unless_few (is_new settings.assume_in_transaction tree (path_cuts tree.text tree.toks path) i) (build.report tree s word)
        of_body i s b = omega arith

    dropped_few : length (dropped tree rules settings) ≤ n
    dropped_few = single_few rule.RequireConcurrentIndexDeletion deletions_of (λ i s. those_few is_plain_drop (drops.report tree) (s ∷ []))

    rebuilt_few : length (rebuilt tree rules settings) ≤ n
    rebuilt_few = single_few rule.RequireConcurrentReindex rebuilds_of (λ i s. those_few is_plain_reindex (reindexes.report tree) (s ∷ []))

    detached_few : length (detached tree rules settings) ≤ n
    detached_few =
        let all = table_few rule.RequireConcurrentPartitionDetach detachments_of starts_of_actions one in
        let top = actions_few in
        omega (arith, all, top)
      where
        of_table : (b : Bool) (xs : List Action) → length (cond b xs []) ≤ length xs
        of_table true xs = omega arith
        of_table false xs = omega arith

        one : (i : ℕ) (s : Stmt) → length (detachments_of settings tree i s) ≤ length (starts_of_actions s)
        one i s =
            let all = those_few is_plain_detach (detaches.report tree) (cond (same_kind s.kind stmt.AlterTable) (actions_in s.body) []) in
            let some = of_table (same_kind s.kind stmt.AlterTable) (actions_in s.body) in
            omega (arith, all, some, length-map (actions_in s.body) (λ (a : Action). a.first))

    typed_few : (r : TypeRule) → length (type_table r tree rules settings) ≤ n
    typed_few r =
        let all = table_few r.code (type_reports r) starts_of_types one in
        let top = types_few in
        omega (arith, all, top)
      where
        one : (i : ℕ) (s : Stmt) → length (type_reports r settings tree i s) ≤ length (starts_of_types s)
        one i s =
            let all = those_few (r.test tree) (r.report tree) (column_types s) in
            omega (arith, all, length-map (column_types s) (λ (t : ColType). t.whole.first))

    timeouts_few : length (timeouts tree rules settings) ≤ n + n
    timeouts_few =
        let all = two_each (timeouts_at tree rules) one (length tree.stmts) in
        let top = statements_few in
        omega (arith, all, top)
      where
        unless_few : (b : Bool) (v : Violation) → length (unless b v) ≤ 1
        unless_few true v = omega arith
        unless_few false v = omega arith

        both_few : (a b : Bool) (s : Stmt) → length (both_reports a b tree rules s) ≤ 2
        both_few a b s =
            let lock = where_few (has rules rule.RequireLockTimeout) (unless a (lock_report tree s)) in
            let stay = where_few (has rules rule.RequireStatementTimeout) (unless b (statement_report tree s)) in
            let p = unless_few a (lock_report tree s) in
            let q = unless_few b (statement_report tree s) in
            omega (arith, lock, stay, p, q, length-append (lock_reports a tree rules s) (statement_reports b tree rules s))

        one : (i : ℕ) → length (timeouts_at tree rules i) ≤ 2
        one i =
            let some = where_few (is_first_slow tree i) (both_reports (is_set tree lock_timeout i) (is_set tree statement_timeout i) tree rules (stmt_at tree i)) in
            let both = both_few (is_set tree lock_timeout i) (is_set tree statement_timeout i) (stmt_at tree i) in
            omega (arith, some, both)

pub load_small : LoadIsSmall
load_small tree rules settings is =
    let tokens = tokens_few tree.text tree.toks is.lexed in
    let short = is.short in
    let a = builds_few tree is rules settings in
    let b = dropped_few tree is rules settings in
    let c = rebuilt_few tree is rules settings in
    let d = detached_few tree is rules settings in
    let e = typed_few tree is rules settings varchars in
    let f = typed_few tree is rules settings timestamps in
    let g = typed_few tree is rules settings ints in
    let h = typed_few tree is rules settings smallints in
    let k = timeouts_few tree is rules settings in
    omega (arith, tokens, short, a, b, c, d, e, f, g, h, k)
