-- What holds of each report of a missing timeout.
use Rattle.std.specs.Prelude.{◌≡◌, Bool, true, false, All, List, [], ◌∷◌, ◌++◌, length, codes, refl, if◌then◌else◌}
use Rattle.std.proofs.lemmas.List.Elements.{All-append}
use Rattle.lint_pass.specs.text_pos.Line.{ending_bytes, line_ending_of}
use Rattle.lint_pass.specs.sql_tree.declared.nodes.Stmt.{Stmt}
use Rattle.lint_pass.specs.sql_tree.Statement.{Tree}
use Rattle.lint_pass.specs.lint_base.declared.rule.Rule.{Rule}
use Rattle.lint_pass.specs.lint_base.declared.rule.Rule.TheVariants as rule
use Rattle.lint_pass.specs.lint_base.declared.violation.Violation.{Violation}
use Rattle.lint_pass.specs.lint_base.RuleSets.{Rules, has, no_rules, with_rule}
use Rattle.lint_pass.specs.lint_transaction.Transaction.{stmt_at}
use Rattle.lint_pass.specs.FixLaws.{before_token}
use Rattle.lint_pass.specs.Laws.{IsOf, HasCode, IsRead, IsPlacedIn, reports_by}
use Rattle.lint_pass.specs.PairLaws.{pair_apart, pair_coded, pieces_apart}
use Rattle.lint_pass.specs.PlaceLaws.{span_place}
use Rattle.lint_pass.specs.RuleLaws.{one_all, pieces_all, unless_all, where_all, where_apart, where_coded}
use Rattle.pass_session.specs.RequireTimeoutSettings.{both_reports, is_first_slow, is_set, lock_report, lock_reports, lock_timeout, reports_of_require_timeout_settings, statement_report, statement_reports, statement_timeout, timeout_rules, timeouts_at, unless}
use Rattle.pass_session.specs.Tokens.{first_significant}

-- ---- one report

unless_holds : (P : Violation → Type 0) (b : Bool) (v : Violation) → P v → All P (unless b v)
unless_holds P b v h = unless_all P b (v ∷ []) (one_all P v h)

lock_coded : (tree : Tree) (s : Stmt) → HasCode rule.RequireLockTimeout (lock_report tree s)
unfolding lock_report
lock_coded tree s = refl

lock_placed : (tree : Tree) (s : Stmt) → IsRead tree → IsPlacedIn tree (lock_report tree s)
unfolding lock_report
lock_placed tree s read =
    record {
      range = span_place tree read s.first s.last;
      edits = before_token tree read (codes "set lock_timeout = '1s';" ++ ending_bytes (line_ending_of tree.text)) (first_significant tree);
    }

statement_coded : (tree : Tree) (s : Stmt) → HasCode rule.RequireStatementTimeout (statement_report tree s)
unfolding statement_report
statement_coded tree s = refl

statement_placed : (tree : Tree) (s : Stmt) → IsRead tree → IsPlacedIn tree (statement_report tree s)
unfolding statement_report
statement_placed tree s read =
    record {
      range = span_place tree read s.first s.last;
      edits = before_token tree read (codes "set statement_timeout = '5s';" ++ ending_bytes (line_ending_of tree.text)) (first_significant tree);
    }

-- ---- the reports of one statement

both_coded : (l t : Bool) (tree : Tree) (r : Rules) (s : Stmt) → All (IsOf timeout_rules r) (both_reports l t tree r s)
both_coded l t tree r s =
    pair_coded (with_rule no_rules rule.RequireLockTimeout) (with_rule no_rules rule.RequireStatementTimeout) r (lock_reports l tree r s) (statement_reports t tree r s)
    (where_coded rule.RequireLockTimeout (unless l (lock_report tree s)) r (unless_holds (HasCode rule.RequireLockTimeout) l (lock_report tree s) (lock_coded tree s)))
    (where_coded rule.RequireStatementTimeout (unless t (statement_report tree s)) r (unless_holds (HasCode rule.RequireStatementTimeout) t (statement_report tree s) (statement_coded tree s)))

both_placed : (l t : Bool) (tree : Tree) (r : Rules) (s : Stmt) → IsRead tree → All (IsPlacedIn tree) (both_reports l t tree r s)
both_placed l t tree r s read =
    All-append (IsPlacedIn tree) (lock_reports l tree r s) (statement_reports t tree r s)
    (where_all (IsPlacedIn tree) (has r rule.RequireLockTimeout) (unless l (lock_report tree s)) (λ _. unless_holds (IsPlacedIn tree) l (lock_report tree s) (lock_placed tree s read)))
    (where_all (IsPlacedIn tree) (has r rule.RequireStatementTimeout) (unless t (statement_report tree s)) (λ _. unless_holds (IsPlacedIn tree) t (statement_report tree s) (statement_placed tree s read)))

both_apart : (l t : Bool) (tree : Tree) (s : Stmt) (q : Rule) (some others : Rules) → has some q ≡ has others q → reports_by q (both_reports l t tree some s) ≡ reports_by q (both_reports l t tree others s)
both_apart l t tree s q some others same =
    pair_apart q (lock_reports l tree some s) (lock_reports l tree others s) (statement_reports t tree some s) (statement_reports t tree others s)
    (where_apart rule.RequireLockTimeout (unless l (lock_report tree s)) q some others same (unless_holds (HasCode rule.RequireLockTimeout) l (lock_report tree s) (lock_coded tree s)))
    (where_apart rule.RequireStatementTimeout (unless t (statement_report tree s)) q some others same (unless_holds (HasCode rule.RequireStatementTimeout) t (statement_report tree s) (statement_coded tree s)))

-- ---- all

pub timeouts_coded : (tree : Tree) (r : Rules) → All (IsOf timeout_rules r) (reports_of_require_timeout_settings tree r)
timeouts_coded tree r =
    pieces_all (IsOf timeout_rules r) (timeouts_at tree r) (length tree.stmts)
    (λ i. where_all (IsOf timeout_rules r) (is_first_slow tree i) (both_reports (is_set tree lock_timeout i) (is_set tree statement_timeout i) tree r (stmt_at tree i))
    (λ _. both_coded (is_set tree lock_timeout i) (is_set tree statement_timeout i) tree r (stmt_at tree i)))

pub timeouts_placed : (tree : Tree) (r : Rules) → IsRead tree → All (IsPlacedIn tree) (reports_of_require_timeout_settings tree r)
timeouts_placed tree r read =
    pieces_all (IsPlacedIn tree) (timeouts_at tree r) (length tree.stmts)
    (λ i. where_all (IsPlacedIn tree) (is_first_slow tree i) (both_reports (is_set tree lock_timeout i) (is_set tree statement_timeout i) tree r (stmt_at tree i))
    (λ _. both_placed (is_set tree lock_timeout i) (is_set tree statement_timeout i) tree r (stmt_at tree i) read))

where_same : (q : Rule) (b : Bool) (xs ys : List Violation) → reports_by q xs ≡ reports_by q ys → reports_by q (if b then xs else []) ≡ reports_by q (if b then ys else [])
where_same q true xs ys h = h
where_same q false xs ys h = refl

pub timeouts_apart : (tree : Tree) (q : Rule) (some others : Rules) → has some q ≡ has others q → reports_by q (reports_of_require_timeout_settings tree some) ≡ reports_by q (reports_of_require_timeout_settings tree others)
timeouts_apart tree q some others same =
    pieces_apart q (timeouts_at tree some) (timeouts_at tree others) (length tree.stmts)
    (λ i. where_same q (is_first_slow tree i)
    (both_reports (is_set tree lock_timeout i) (is_set tree statement_timeout i) tree some (stmt_at tree i))
    (both_reports (is_set tree lock_timeout i) (is_set tree statement_timeout i) tree others (stmt_at tree i))
    (both_apart (is_set tree lock_timeout i) (is_set tree statement_timeout i) tree (stmt_at tree i) q some others same))
