-- The fix of a report: one insertion after a token, and the text that it makes.
use Rattle.std.proofs.Common.{◌≡◌, ◌≢◌, ℕ, zero, suc, ◌+◌, ◌-◌, ◌<◌, ◌⊎◌, ◌^◌, inl, inr, cond, List, [], ◌∷◌, ◌++◌, map, length, get_or, take, drop, sym, refl, ap, ◌∙◌, subst, arith, Option, Some, None}
use Rattle.std.proofs.lemmas.Bool.Decides.{nat_tests}
use Rattle.std.proofs.lemmas.List.Elements.{All-nil}
use Rattle.std.specs.Prelude.{◌==◌, nat_le, All, codes}
use Rattle.law_edit_inserts.specs.sql_token.Token.{Text, Lexed}
use Rattle.law_edit_inserts.specs.sql_tree.declared.nodes.Stmt.{Stmt}
use Rattle.law_edit_inserts.specs.sql_tree.Range.{span_range_of, stmt_range_of}
use Rattle.law_edit_inserts.specs.sql_tree.Statement.{Tree, IsTree}
use Rattle.law_edit_inserts.specs.law_edit_tokens.Exchange.{exchanged}
use Rattle.law_edit_inserts.specs.Built.{concurrently_text, concurrently_tree, concurrent_stmt, TakesConcurrently}
use Rattle.law_edit_inserts.proofs.Fields.{concurrently_reads}
use Rattle.pass_concurrent.specs.lint_base.declared.edit.Edit.{Edit}
use Rattle.pass_concurrent.specs.lint_base.declared.settings.LinterSettings.{LinterSettings}
use Rattle.pass_concurrent.specs.lint_base.declared.violation.Violation.{Violation}
use Rattle.pass_concurrent.specs.lint_base.Edits.{insertion}
use Rattle.pass_concurrent.specs.lint_base.Fixes.{FixValue}
use Rattle.pass_concurrent.specs.lint_base.RuleSets.{Rules, has}
use Rattle.pass_concurrent.specs.lint_transaction.Transaction.{no_stmt, stmt_at}
use Rattle.pass_concurrent.specs.lint_transaction.Earlier.{concat_below}
use Rattle.pass_concurrent.specs.lint_pass.RuleLaws.{one_all, pieces_all, unless_all, where_all}
use Rattle.pass_concurrent.specs.Concurrently.{concurrently_after}
use Rattle.law_fixes.specs.Edited.{edited, place_moved}
use Rattle.law_fixes.specs.Moved.{start_moved, violation_moved}
use Rattle.law_fixes.specs.Stays.{place_of, inserted, TableStays}
use Rattle.law_fixes.specs.Mended.{Table, Reports, table_by, FixMends, FixesMend, builds_of, deletions_of, rebuilds_of, builds, dropped, rebuilt}
use Rattle.law_fixes.proofs.Tokens.{placed}
use Rattle.law_fixes.proofs.Statements.{inside}
use Rattle.law_fixes.proofs.Words.{Target, WordRule, IsWordRule, word_report, is_excused, word_reports_by, word_reports, word_reports_at, word_table, kept_is, table_same, elsewhere}
use Rattle.law_fixes.proofs.WordRules.{index_rule, deletion_rule, reindex_rule, is_index_rule, is_deletion_rule, is_reindex_rule, added, builds_are, deletions_are, rebuilds_are, Same, table_is}

-- ---- one statement of a list

pub record At (ss : List Stmt) (j : ℕ) : Type 0 where
  pub before : List Stmt
  pub after : List Stmt
  pub parts : ss ≡ before ++ get_or ss j no_stmt ∷ after

pub at_or_none : (ss : List Stmt) (j : ℕ) → At ss j ⊎ (get_or ss j no_stmt ≡ no_stmt)
at_or_none [] j = inr refl
at_or_none (s ∷ ss) zero = inl (record { before = []; after = ss; parts = refl })
at_or_none (s ∷ ss) (suc j) = by (at_or_none ss j)
  where
    by : At ss j ⊎ (get_or ss j no_stmt ≡ no_stmt) → At (s ∷ ss) (suc j) ⊎ (get_or ss j no_stmt ≡ no_stmt)
    by (inl a) = inl (record { before = s ∷ a.before; after = a.after; parts = ap (λ (x : List Stmt). s ∷ x) a.parts })
    by (inr e) = inr e

-- ---- one insertion

pub one_edited : (t w : Text) (a : ℕ) → edited t (insertion w a ∷ []) ≡ exchanged t a a w
one_edited t w a = let e : a - 0 ≡ a = omega arith in λ i. take (e i) t ++ (w ++ drop a t)

pub one_moved : (w : Text) (a x : ℕ) → place_moved (insertion w a ∷ []) x ≡ start_moved a (length w) x
one_moved w a x = number a x (length w)
  where
    number : (a x n : ℕ) → cond (nat_le a x) (x + n - (a - a)) x ≡ start_moved a n x
    number a x n = grind (arith, nat_tests)

-- the edits of a fix that puts the word after token n
pub record PutsWord (tree : Tree) (n : ℕ) (f : FixValue) : Type 0 where
  pub edits : f.edits ≡ insertion (codes " concurrently") (place_of tree n) ∷ []
  pub text : edited tree.text f.edits ≡ concurrently_text tree n
  pub place : (x : ℕ) → place_moved f.edits x ≡ start_moved (place_of tree n) inserted x

pub puts_word : (tree : Tree) (n : ℕ) (f : FixValue) → Lexed tree.text tree.toks → n < length tree.toks → concurrently_after tree n ≡ f → PutsWord tree n f
puts_word tree n f lexed within has =
    let some = (placed tree.text 0 (length tree.text) tree.toks n lexed within).some in
    let end : (span_range_of tree.toks n n).end ≡ place_of tree n = omega arith in
    let edits : f.edits ≡ insertion (codes " concurrently") (place_of tree n) ∷ [] =
    ap (λ (x : FixValue). x.edits) (sym has) ∙ ap (λ (x : ℕ). insertion (codes " concurrently") x ∷ []) end in
    record {
      edits = edits;
      text = ap (λ (x : List Edit). edited tree.text x) edits ∙ one_edited tree.text (codes " concurrently") (place_of tree n);
      place = λ x. ap (λ (es : List Edit). place_moved es x) edits ∙ one_moved (codes " concurrently") (place_of tree n) x;
    }

-- ---- the report of one statement

pub inside_some : {x y : FixValue} → Some x ≡ Some y → x ≡ y
inside_some e = cc

mends : (r : WordRule) → IsWordRule r → (tree : Tree) (rules : Rules) (settings : LinterSettings) (before : List Stmt) (s : Stmt) (after : List Stmt) (n : ℕ) → IsTree tree → tree.stmts ≡ before ++ s ∷ after → TakesConcurrently n s →
    FixMends (word_table r) tree rules settings (word_report r tree s n)
mends r law tree rules settings before s after n is parts takes f has short =
    let build = added tree before s after n is parts takes in
    let i = inside tree before s after n (concurrent_stmt n s) build in
    let puts = puts_word tree n f is.lexed i.within (inside_some has) in
    let text = puts.text in
    let place = puts.place (stmt_range_of tree.toks s).start in
    let reads = concurrently_reads tree before s after n is parts takes (subst (λ (x : Text). length x < 2 ^ 32) text short) in
    record {
      new = concurrently_tree tree n before (concurrent_stmt n s) after;
      text = sym text;
      is = reads.is;
      terms = record { n = n; within = i.within; put = puts.edits; toks = refl; terms = reads.terms };
      silent = subst (λ (p : ℕ). All (λ w. w.text_range.start ≢ p) (word_table r (concurrently_tree tree n before (concurrent_stmt n s) after) rules settings)) (sym place)
          (elsewhere tree before s after n build r law rules settings);
    }

word_fixes_mend : (r : WordRule) → IsWordRule r → FixesMend (word_table r)
word_fixes_mend r law tree rules settings is =
    pieces_all Mends (word_reports_at r tree rules settings) (length tree.stmts)
    (λ j. where_all Mends (has rules r.code) (word_reports r settings tree j (stmt_at tree j)) (λ enabled. each j (at_or_none tree.stmts j)))
  where
    Mends : Violation → Type 0
    Mends v = FixMends (word_table r) tree rules settings v

    each : (j : ℕ) → At tree.stmts j ⊎ (stmt_at tree j ≡ no_stmt) → All Mends (word_reports r settings tree j (stmt_at tree j))
    each j (inr e) =
        subst (λ (t : Option Target). All Mends (word_reports_by r settings tree j (stmt_at tree j) t)) (sym (ap (λ (s : Stmt). r.target s.kind s.body) e ∙ kept_is r law no_stmt.kind)) (All-nil Mends)
    each j (inl a) = by (r.target (stmt_at tree j).kind (stmt_at tree j).body) refl
      where
        by : (t : Option Target) → r.target (stmt_at tree j).kind (stmt_at tree j).body ≡ t → All Mends (word_reports_by r settings tree j (stmt_at tree j) t)
        by None h = All-nil Mends
        by (Some t) h =
            unless_all Mends (is_excused settings tree j t.table) (word_report r tree (stmt_at tree j) t.word ∷ [])
            (one_all Mends (word_report r tree (stmt_at tree j) t.word)
            (mends r law tree rules settings a.before (stmt_at tree j) a.after t.word is a.parts (law.takes (stmt_at tree j) t h)))

-- ---- the tables of the passes

by_table : (r : WordRule) → IsWordRule r → (reports : Reports) → Same r reports → FixesMend (table_by r.code reports)
by_table r law reports same =
    subst (λ (T : Table). FixesMend T) (sym (λ i tree rules settings. table_is r reports same tree rules settings i)) (word_fixes_mend r law)

pub builds_mend : FixesMend builds
builds_mend = by_table index_rule is_index_rule builds_of builds_are

pub dropped_mend : FixesMend dropped
dropped_mend = by_table deletion_rule is_deletion_rule deletions_of deletions_are

pub rebuilt_mend : FixesMend rebuilt
rebuilt_mend = by_table reindex_rule is_reindex_rule rebuilds_of rebuilds_are

stays_by : (r : WordRule) → IsWordRule r → (reports : Reports) → Same r reports → TableStays r.code reports
stays_by r law reports same tree before s after n is parts takes rules settings =
    table_is r reports same (concurrently_tree tree n before (concurrent_stmt n s) after) rules settings
    ∙ table_same tree before s after n (added tree before s after n is parts takes) r law rules settings
    ∙ (λ i. concat_below (λ j. cond (j == length before) [] (map (violation_moved (place_of tree n) inserted) (cond (has rules r.code) (back j i) []))) (length tree.stmts))
  where
    back : (j : ℕ) → word_reports r settings tree j (stmt_at tree j) ≡ reports settings tree j (stmt_at tree j)
    back j = sym (same settings tree j (stmt_at tree j))

pub builds_stay : TableStays index_rule.code builds_of
builds_stay = stays_by index_rule is_index_rule builds_of builds_are

pub dropped_stay : TableStays deletion_rule.code deletions_of
dropped_stay = stays_by deletion_rule is_deletion_rule deletions_of deletions_are

pub rebuilt_stay : TableStays reindex_rule.code rebuilds_of
rebuilt_stay = stays_by reindex_rule is_reindex_rule rebuilds_of rebuilds_are
